-- `Losing` has the marks that one entry adds.
pub mod Losing
-- `Colliding` has the marks that one directed edge adds.
pub mod Colliding
-- `Staying` has that every face stays where each directed edge is used at most once.
pub mod Staying
