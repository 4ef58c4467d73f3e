pub mod Walks
pub mod Loops
