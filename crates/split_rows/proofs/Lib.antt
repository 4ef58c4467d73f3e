-- `Standing` has a state whose faces stand at the front of a room.
pub mod Standing
-- `Blank` has points that are all the same, over which the laws of crates/split_bowtie_vertices are used.
pub mod Blank
-- `Vertices` has what is reached when one vertex more is split, and `Ending` the rooms after pass 5.
pub mod Vertices
pub mod Ending
-- `Flags` has the flags of the unused points.
pub mod Flags
-- `Told` has that these rows tell the lines of both passes.
pub mod Told
