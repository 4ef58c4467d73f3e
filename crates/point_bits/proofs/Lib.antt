-- `Setting` has what a bit more changes.
pub mod Setting
