-- `Agreeing` has the groups of joinings that agree.
pub mod Agreeing
-- `Unchanged` has the fans at a point, which splits elsewhere leave as they are.
pub mod Unchanged
-- `Reports` has counts added together.
pub mod Reports
-- `AllAtOnce` has the pass in one formula.
pub mod AllAtOnce
-- `Entries` has the entries at a point by the numbers of corners.
pub mod Entries
-- `Numbers` has the number of a corner by the leaders.
pub mod Numbers
-- `Goals` has what stands at a corner after the pass.
pub mod Goals
