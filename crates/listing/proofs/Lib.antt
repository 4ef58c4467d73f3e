-- `Blocks` has a row that is written two or three entries a turn.
pub mod Blocks
-- `Ends` has the ends of the edges, written edge by edge.
pub mod Ends
-- `Lengths` has their lengths.
pub mod Lengths
-- `Sides` has the edges of the faces.
pub mod Sides
