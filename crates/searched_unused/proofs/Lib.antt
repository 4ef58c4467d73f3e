-- `Using` has the search for a face that has a point.
pub mod Using
-- `Adding` has the lines of the points that no face has, added up.
pub mod Adding
