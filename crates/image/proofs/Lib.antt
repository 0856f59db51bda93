pub mod Ranks
pub mod Places
pub mod Runs
pub mod LinesLaws
pub mod Made
pub mod ImageLaws
pub mod FragmentSlice
