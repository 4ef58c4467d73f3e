-- `Judging` has the verdict by the table and by the faces alone, `Preparing` the work room that is as it was after a refusal.
pub mod Judging
pub mod Preparing
