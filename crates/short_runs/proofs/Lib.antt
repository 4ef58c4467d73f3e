-- `Pushing` has what an entry put at the end of a region makes of it.
pub mod Pushing
-- `Taking` has the loop that takes a key out of a run.
pub mod Taking
-- `Rising` has the loop over the keys of a run.
pub mod Rising
