pub mod ReadsLaws
pub mod FormLaws
pub mod BracketLaws
pub mod OperatorLaws
