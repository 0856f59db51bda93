pub mod LineOne
pub mod TableSize
