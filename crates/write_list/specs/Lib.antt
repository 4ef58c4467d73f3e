-- `Called` has what the call gives back as the rules' outcome.
pub mod Called
