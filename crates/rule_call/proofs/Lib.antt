pub mod WholeLaws
pub mod WritingLaws
pub mod AnswerLaws
