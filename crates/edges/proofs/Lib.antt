-- `Writing` has the rooms.
pub mod Writing
-- `Ending` has the outcome of the call.
pub mod Ending
