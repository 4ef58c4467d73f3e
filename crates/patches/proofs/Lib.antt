-- `Limits` has the limits taken apart, `Flags` the flags.
pub mod Limits
pub mod Flags
-- `Areas` has what an accepted call says of areas, `Deciding` the rules' flag by the rooms.
pub mod Areas
pub mod Deciding
-- `Filling` has the rooms entry by entry, `Rooms` and `Ending` the outcome of the call.
pub mod Filling
pub mod Rooms
pub mod Ending
