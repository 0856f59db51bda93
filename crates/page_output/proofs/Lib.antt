pub mod NodeLaws
pub mod OutputLaws
