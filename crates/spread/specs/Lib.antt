pub mod Spread
pub mod Underway
