-- `Splits` has the corners in face order, and what is told of them so far.
pub mod Splits
