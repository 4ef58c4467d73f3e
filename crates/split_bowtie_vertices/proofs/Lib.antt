-- `Places` has the sorted corners by place.
pub mod Places
-- `Vertices` has what is reached when one vertex more is split.
pub mod Vertices
-- `Renamed` has the corners, `Copied` the points and `Ending` the rooms after the pass.
pub mod Renamed
pub mod Copied
pub mod Ending
