-- `Ending` has the outcome of the call.
pub mod Ending
