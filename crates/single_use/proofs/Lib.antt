-- `Standing` has the entries of faces under their states, by the entries of the faces as they were.
pub mod Standing
-- `Opposing` has that each directed edge is used at most once, where no run is at odds.
pub mod Opposing
-- `Scanning` has what the scan reads of a run.
pub mod Scanning
-- `Calm` has that pass 4 changes nothing then.
pub mod Calm
