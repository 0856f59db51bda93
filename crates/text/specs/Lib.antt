pub mod Field
pub mod Decimal
pub mod Fields
