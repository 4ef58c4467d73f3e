pub mod Standing
pub mod Steps
