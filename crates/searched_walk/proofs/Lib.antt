-- `Setting` has lists by the faces that stand, when the word of one face is changed.
pub mod Setting
-- `Noting` has the word of one face that is visited.
pub mod Noting
-- `Visiting` has one face that is met.
pub mod Visiting
-- `Meeting` has face after face that is met across a step.
pub mod Meeting
-- `Popping` has a face that is taken off the stack, until that is empty.
pub mod Popping
-- `Beginning` has the walk of one component, and of all.
pub mod Beginning
-- `Cleaning` has the words at the end, and how many faces stand.
pub mod Cleaning
