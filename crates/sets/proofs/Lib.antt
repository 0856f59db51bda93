pub mod MarkLaws
pub mod SetLaws
