-- `Entries` has the entries of a step, face by face.
pub mod Entries
-- `Testing` has what the tests of steps and corners say.
pub mod Testing
-- `Wanting` has which entries are wanted.
pub mod Wanting
-- `Holding` has the choice when one face more was looked at.
pub mod Holding
-- `Counting` has the loop that counts entries.
pub mod Counting
-- `Picking` has the loop that picks the best one.
pub mod Picking
-- `Keeping` has who is kept at a crowded edge, by what is picked.
pub mod Keeping
