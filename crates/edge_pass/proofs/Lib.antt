pub mod EdgePassLaws
