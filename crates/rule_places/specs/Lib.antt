pub mod Binding
pub mod Places
