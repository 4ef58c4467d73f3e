-- `One` has one mesh in its parts of the rooms.
pub mod One
-- `Next` has one mesh behind others.
pub mod Next
