-- `Short` has 6 from the lengths, `Parts` the parts of the work room, `Accept` what an accepted input may start from.
pub mod Short
pub mod Parts
pub mod Accept
