-- The first room that is too short, and what an accepted call may start from.
pub mod Short
pub mod Accept
