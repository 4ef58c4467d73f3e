-- `Unused` has the lines of the points that no face has.
pub mod Unused
