-- `Meeting` has what one face's word says when it is met, and `Crossing` the loops over all faces.
pub mod Meeting
pub mod Crossing
-- `Going` has what going through one face changes.
pub mod Going
-- `Settling` has the flags of the faces that were gone through.
pub mod Settling
-- `Grouping` has the group of a corner by the faces that stand, `Spreading` the search for it, and `Reached` what it finds.
pub mod Grouping
pub mod Spreading
pub mod Reached
