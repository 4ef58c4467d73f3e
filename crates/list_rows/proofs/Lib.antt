-- `ByOption` has passes 5 and 6 by their options.
pub mod ByOption
-- `Same` has that lines told by fates that are the same are the same.
pub mod Same
-- `Wider` has that what is changed in two regions is changed in one that has both.
pub mod Wider
-- `Prepared` has the rows one behind the other, and what they tell.
pub mod Prepared
