-- `Ready` has what was found of the input.
pub mod Ready
