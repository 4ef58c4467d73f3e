-- `Reading` has what is read of one run of the table.
pub mod Reading
-- `Adding` has the marks of one entry more.
pub mod Adding
-- `Running` has the marks of one run more.
pub mod Running
-- `Standing` has the faces at the front of their room, as a pass hands them on.
pub mod Standing
