-- `Counting` has the count, face after face.
pub mod Counting
-- `Ranking` has that the count is the rank.
pub mod Ranking
