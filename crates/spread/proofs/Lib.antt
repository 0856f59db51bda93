pub mod Marks
pub mod Chain
pub mod Waits
pub mod Tally
pub mod Turn
pub mod Walk
pub mod Worklist
