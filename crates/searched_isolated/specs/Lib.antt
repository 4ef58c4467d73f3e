-- `Points` has the lines of points that pass 6 would tell.
pub mod Points
