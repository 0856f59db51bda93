pub mod Lines
pub mod Image
pub mod Denoted
