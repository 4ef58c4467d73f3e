-- `Ranks` has which corners count.
pub mod Ranks
