pub mod PartLaws
pub mod TypedLaws
pub mod OutputLaws
pub mod PrintedLaws
pub mod Worked
