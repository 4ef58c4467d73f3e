-- `Boxes` has a box number and a coordinate, `Seven` a record in the numbers room, `Faces` the record with a face more.
pub mod Boxes
pub mod Seven
pub mod Faces
-- `Empties`, `Counting` and `Summing` have the three loops.
pub mod Empties
pub mod Counting
pub mod Summing
