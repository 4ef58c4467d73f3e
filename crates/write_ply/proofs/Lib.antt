-- `Putting` has the parts of the file put one behind the other, `Ending` the outcome.
pub mod Putting
pub mod Ending
