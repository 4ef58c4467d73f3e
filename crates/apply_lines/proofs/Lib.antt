-- `Taking` has the faces of a split, one after the other.
pub mod Taking
-- `Stepping` has one line of those that are left.
pub mod Stepping
-- `Running` has the lines of a text one after the other.
pub mod Running
-- `Applying` has the bench as it first stands in the rooms, and the whole.
pub mod Applying
