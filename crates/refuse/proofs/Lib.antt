-- Laws of the checks, and what an accepted call may start from.
pub mod Scans
pub mod Groups
pub mod Singles
pub mod Accept
pub mod Refusals
