pub mod Verdicts
pub mod Accepted
