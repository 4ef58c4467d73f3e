pub mod Plan
pub mod Parents
pub mod Uniting
pub mod Answers
