-- `Walks` has the counts of half entries as counts of the rules' steps.
pub mod Walks
-- `Passing` has the first fault among the numbers that pass a test, and `Pairs` the pairs as keys.
pub mod Passing
pub mod Pairs
-- `Seven` has the rules' refusal 7 from what the scan knows.
pub mod Seven
-- `Verdicts` has the rules' verdict from a right one.
pub mod Verdicts
-- `Boundary` has the counts of boundary edges.
pub mod Boundary
