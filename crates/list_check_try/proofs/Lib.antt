-- What is asked of two faces.
pub mod Ready
