pub mod PageLaws
pub mod BufferLaws
mod Worked
