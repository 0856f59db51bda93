pub mod ReadyLaws
pub mod ExchangeLaws
pub mod RunningLaws
pub mod SettledLaws
