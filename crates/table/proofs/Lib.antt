pub mod Parts
pub mod FillingLaws
pub mod CellLaws
pub mod FillingLoops
