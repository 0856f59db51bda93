pub mod RunLaws
pub mod ChainLaws
pub mod PlaceLaws
pub mod FragmentLaws
