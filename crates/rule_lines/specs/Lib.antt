pub mod Held
pub mod Joining
