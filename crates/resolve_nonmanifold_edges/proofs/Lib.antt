-- `Losing` has the marks that one entry adds.
pub mod Losing
-- `Crowding` has the marks and the count that one edge adds.
pub mod Crowding
