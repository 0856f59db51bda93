pub mod ColumnLaws
pub mod StaleLaws
pub mod WorkedLaws
