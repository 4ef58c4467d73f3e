-- `Order` has the order of lines by section and numbers, and how many lines there are at most up to one. `Anys` has laws of tests over lists, `Changes` what
-- each kind of line makes of the bench and of the rows, `Single` one line whatever stands, `Points` the new point of a split. `Firsts` has the first bad line,
-- `Starting` what stands before the first line, `Looping` and `Unused` the two loops, `Whole` all together. `Near` has, by the rules alone, that the place of
-- refusal 15 is near.
pub mod Order
pub mod Anys
pub mod Changes
pub mod Single
pub mod Points
pub mod Firsts
pub mod Starting
pub mod Looping
pub mod Unused
pub mod Whole
pub mod Near
