-- `Ready` has that a small mesh in its rooms is as pass 5 asks.
pub mod Ready
