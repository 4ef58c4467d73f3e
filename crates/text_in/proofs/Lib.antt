pub mod Cuts
pub mod Storing
pub mod Growing
pub mod Lines
pub mod Sizes
