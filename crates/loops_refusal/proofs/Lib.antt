-- The first room that is too short, and what the loop call may start from.
pub mod Short
pub mod Accept
