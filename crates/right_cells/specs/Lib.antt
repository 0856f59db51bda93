pub mod Right
