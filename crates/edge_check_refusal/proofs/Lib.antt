-- The room that is too short, and what an accepted edge check may start from.
pub mod Short
pub mod Accept
