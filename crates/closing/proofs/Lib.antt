pub mod ClosingLaws
