pub mod Lent
pub mod Filling
pub mod Column
