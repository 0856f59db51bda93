pub mod HeldLaws
pub mod JoiningLaws
