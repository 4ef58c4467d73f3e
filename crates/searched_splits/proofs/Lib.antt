-- `Reading` has what is read of one face.
pub mod Reading
-- `Leading` has who leads when the corners are gone through in order, and `Flags` the words then.
pub mod Leading
pub mod Flags
-- `Closing` has how the group of one corner is flagged.
pub mod Closing
-- `Stepping` has what one corner changes, in the words and in what is told.
pub mod Stepping
-- `Faces` has face after face, and what is told in the end.
pub mod Faces
