-- `Mating` has which face is across an edge of at most two entries.
pub mod Mating
-- `Keeping` has what stays known while the walk goes on.
pub mod Keeping
-- `Noting` has who disagrees, noted of an edge.
pub mod Noting
-- `Settling` has an edge that is crossed for the first time.
pub mod Settling
-- `Crossings` has one face that crosses its edges.
pub mod Crossings
