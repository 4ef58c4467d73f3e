-- `Scans` has what a scan from the front gives.
pub mod Scans
-- `Uses` has how often an edge occurs, by the runs of the table, and refusal 7.
pub mod Uses
-- `Alike` has that the rows do not depend on the order of the edges.
pub mod Alike
-- `Adding` has what one more boundary edge makes of the rows.
pub mod Adding
-- `Grouping` has that a list taken group by group has what the list has.
pub mod Grouping
-- `Tracing` has the loop over all runs.
pub mod Tracing
-- `Faults` has refusal 8 from the rows.
pub mod Faults
-- `Onward` has where the boundary goes on, in the words of the rules.
pub mod Onward
-- `Ending` has the verdict.
pub mod Ending
-- `Calling` has what the edge call needs of it.
pub mod Calling
