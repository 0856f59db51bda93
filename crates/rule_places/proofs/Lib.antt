pub mod BindingLaws
pub mod PlaceLaws
