-- `Length` has what the search for the length of a list asks and gives.
pub mod Length
