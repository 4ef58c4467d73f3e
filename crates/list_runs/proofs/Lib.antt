-- `Stepping` has the first of some lines, and the others; `Ordered` what the order of lines says of their numbers.
pub mod Stepping
pub mod Ordered
-- `Few` has how many lines can apply, and so that the first bad line has a number below 2^32.
pub mod Few
