pub mod ShortLaws
pub mod Printed
mod FiveLaws
