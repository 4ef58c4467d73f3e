pub mod Words
pub mod Joining
pub mod Summed
pub mod Whole
