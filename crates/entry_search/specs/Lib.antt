-- `Searching` has which faces are looked at, and their entries.
pub mod Searching
-- `Choosing` has the entries that are wanted and what ranks first among them.
pub mod Choosing
