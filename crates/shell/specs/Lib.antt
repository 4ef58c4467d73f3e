pub mod Told
pub mod Clip
pub mod Listed
