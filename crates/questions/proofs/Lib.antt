pub mod NoLaws
pub mod FineLaws
