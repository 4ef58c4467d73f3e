-- `Frames` has two laws of regions.
pub mod Frames
-- `Cuts` has lists made of one list after another.
pub mod Cuts
-- `Ids` has the entries by their numbers, and sorted.
pub mod Ids
-- `Rows` has that the different edges rise, and what an entry of a run is.
pub mod Rows
-- `Places` has what a pass over a table may use of places and runs.
pub mod Places
-- `Begun` has where runs begin.
pub mod Begun
-- `Theorems` has what the table says in the rules' words.
pub mod Theorems
-- `Handing` has what a pass reads of one run, handed on as a part of the slice.
pub mod Handing
