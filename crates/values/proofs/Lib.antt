pub mod ValueLaws
pub mod ColumnLaws
