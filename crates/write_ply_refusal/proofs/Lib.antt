-- `Counting` has how many digits a count has, `Short` the first room that is too short, `Accept` what writing may start from.
pub mod Counting
pub mod Short
pub mod Accept
