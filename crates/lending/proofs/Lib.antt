pub mod Raised
pub mod Going
pub mod Mending
