-- `Taken` has who has a point before and after a group is split off.
pub mod Taken
-- `Lines` has the lines of pass 5, and `Rows` both passes' lines from rows.
pub mod Lines
pub mod Rows
-- `Alone` has that the number of points and the corners alone decide what pass 5 splits off.
pub mod Alone
-- `Examples` has small meshes, computed.
pub mod Examples
