pub mod FieldLaws
pub mod FieldsLaws
pub mod DecimalLaws
pub mod Line
pub mod WriteLaws
