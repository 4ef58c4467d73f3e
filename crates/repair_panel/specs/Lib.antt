pub mod Answers
pub mod Packs
