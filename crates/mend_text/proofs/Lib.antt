pub mod Known
pub mod Deciding
pub mod Ending
pub mod Reading
