pub mod Truth
pub mod Labelling
pub mod Renaming
