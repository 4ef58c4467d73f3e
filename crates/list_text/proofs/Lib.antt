-- `Onward` has a text that is put part by part, and a loop over numbers. `EachKind` has the line of each kind, `Corners` where the corners at a point begin among the
-- sorted ones, `Ordered` that `sorting::order` leaves them so, `Once` that each face with the point is named once, `Takers` the pass that names them, `OneSplit` the
-- line of a split, `Splits` those of all, and `Listed` the whole text.
pub mod Onward
pub mod EachKind
pub mod Corners
pub mod Ordered
pub mod Once
pub mod Takers
pub mod OneSplit
pub mod Splits
pub mod Listed
