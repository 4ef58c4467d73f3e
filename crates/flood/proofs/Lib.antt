pub mod Runs
pub mod Forests
pub mod Merging
pub mod Leading
