-- `Sums` has laws of sums, and `Filtered` the places of what a filter leaves.
pub mod Sums
pub mod Filtered
-- `Order` has the corners that open a group in the order of the new points.
pub mod Order
-- `Takers` has who takes each new point.
pub mod Takers
-- `Lengths` has the lines of pass 5 and the length of their text.
pub mod Lengths
-- `Weights` has what one line weighs, by the corner that opens its group.
pub mod Weights
-- `Isolated` has which points are unused after pass 5, and the length of the lines that tell them.
pub mod Isolated
-- `Ranks` has a rank as a count over all corners, and `Keeping` the old points that are used, by their first corners.
pub mod Ranks
pub mod Keeping
