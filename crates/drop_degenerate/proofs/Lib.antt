-- `Marking` has the loop that flags degenerate faces, as a fact of lists.
pub mod Marking
