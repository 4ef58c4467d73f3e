pub mod Changes
pub mod Finish
