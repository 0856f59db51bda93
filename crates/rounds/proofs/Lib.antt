pub mod RoundLaws
pub mod RunningLaws
pub mod CameLaws
pub mod FinishLaws
