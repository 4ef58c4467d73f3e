-- `Corners` has the flat list of corners and the faces: what is used, and faces renumbered.
pub mod Corners
-- `Using` and `Renumbering` have the two loops, as facts of lists.
pub mod Using
pub mod Renumbering
-- `Ending` has how the parts make the pass.
pub mod Ending
-- `Resulting` has the state of the rules after the pass.
pub mod Resulting
