-- `Setting` has what setting a bit keeps and makes.
pub mod Setting
-- `Blocks` has the blocks of faces, and which faces are passed with them.
pub mod Blocks
-- `Testing` has what the tests of corners say.
pub mod Testing
-- `Finding` has the search: a face whose bit is clear has not both corners.
pub mod Finding
