-- `Lost` has the lines of the points that no face takes.
pub mod Lost
