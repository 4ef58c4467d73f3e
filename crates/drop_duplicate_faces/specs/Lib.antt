pub mod Keys
pub mod Marks
