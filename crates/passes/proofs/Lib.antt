pub mod Standing
pub mod Steps
pub mod Passes
pub mod Rooms
