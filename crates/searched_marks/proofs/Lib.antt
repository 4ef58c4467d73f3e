-- `Own` has the rules' marks of a face, by its own edges and steps.
pub mod Own
-- `Seeing` has that marks do not change what is seen.
pub mod Seeing
-- `Losing` has the marks by faces.
pub mod Losing
-- `Repeating` has faces with the same sorted corners, and pass 2's mark by faces.
pub mod Repeating
-- `Degenerate` has pass 1's mark by faces.
pub mod Degenerate
-- `Marking` has the loops over all faces.
pub mod Marking
