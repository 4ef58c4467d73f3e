-- `Writing` has the loops that write numbers and digits, as facts of lists.
pub mod Writing
-- `Levels` has what the test of two rows' keys says.
pub mod Levels
-- `Ranking` has lists that hold all numbers below n, sorted by one key more; `Passing` and `Columns` have it of a digit and of a column.
pub mod Ranking
pub mod Passing
pub mod Columns
-- `Places` has the test of two places of the order, `Runs` what stands before a place, and `Leading` the loop over the places.
pub mod Places
pub mod Runs
pub mod Leading
-- `Sorting` has the loop over the columns, and `Ending` the whole.
pub mod Sorting
pub mod Ending
