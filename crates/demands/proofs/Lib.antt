pub mod Proved
pub mod Demands
