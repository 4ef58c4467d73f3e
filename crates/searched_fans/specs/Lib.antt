-- `Reaching` has the search for one group of corners.
pub mod Reaching
