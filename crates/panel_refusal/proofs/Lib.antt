-- Counts taken off a length, the largest work room, the first room that is too short, and what an accepted call may start from.
pub mod Adding
pub mod Widest
pub mod Short
pub mod Accept
