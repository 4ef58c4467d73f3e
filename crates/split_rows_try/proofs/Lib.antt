-- `Ready` has that a small mesh in its rooms is as the rows of pass 5 ask.
pub mod Ready
