-- The first room that is too short, and what the edge call may start from.
pub mod Short
pub mod Accept
