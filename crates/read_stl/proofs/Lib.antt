-- `Keying`, `Standing`, `Flagging` and `Numbering` have the loops, as facts of lists.
pub mod Keying
pub mod Standing
pub mod Flagging
pub mod Numbering
-- `Merging` has points and triples by the first equal corners, `Meaning` that the same bits are equal corners.
pub mod Merging
pub mod Meaning
-- `Pointing` has the corners in the points room as the rules' list; `Ending` has the whole call.
pub mod Pointing
pub mod Ending
