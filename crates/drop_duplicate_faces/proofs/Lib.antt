-- `Runs` has where a run of equal keys begins in a list that rises by several keys.
pub mod Runs
-- `Alike` has the rules' mark of a face, by its three sorted corners.
pub mod Alike
-- `Keying` and `Marking` have the two loops, as facts of lists.
pub mod Keying
pub mod Marking
-- `Sorting` has the sort by the columns, and `Flags` that the flags are the rules' marks.
pub mod Sorting
pub mod Flags
