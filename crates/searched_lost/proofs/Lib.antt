-- `Losing` has the line of one corner.
pub mod Losing
-- `Adding` has the lines of all corners, added up.
pub mod Adding
