pub mod PageOutput
pub mod PageSize
