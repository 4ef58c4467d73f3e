-- `Ending` has the outcome.
pub mod Ending
