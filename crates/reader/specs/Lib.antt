pub mod LineQuestions
pub mod JobRead
