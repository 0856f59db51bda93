pub mod LexemeLaws
pub mod ScanLaws
