-- `Reading` has a number and a float read from bytes, `Scanning` the corners and the first that is outside its domain.
pub mod Reading
pub mod Scanning
-- `Checks` has 12 and 6, `Deciding` all checks in their order, and `Accept` what an accepted file says.
pub mod Checks
pub mod Deciding
pub mod Accept
