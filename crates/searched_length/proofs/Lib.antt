-- `LastTwo` has the lines of passes 5 and 6.
pub mod LastTwo
-- `Rows` has the front of a row that was cleared, and rows of zeros.
pub mod Rows
-- `Whole` has the list, pass by pass.
pub mod Whole
