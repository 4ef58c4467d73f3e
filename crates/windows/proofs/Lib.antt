-- `Arounds` has the half entries of a vertex by its corners: they are those of the steps.
pub mod Arounds
-- `Places` has where the runs begin, and the counts of corners.
pub mod Places
-- `Passing` has the pass over the faces.
pub mod Passing
-- `Fitting` has the loop that finds where runs begin, and the copy of a run.
pub mod Fitting
-- `Running` has the loop over the runs of a window.
pub mod Running
-- `Advancing` has what a window makes of what is known.
pub mod Advancing
