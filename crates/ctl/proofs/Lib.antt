pub mod Labelling
pub mod Total
pub mod Reached
pub mod Walks
pub mod Untils
pub mod Truth
pub mod Renaming
