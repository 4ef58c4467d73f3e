-- `Checks` has the checks of the call, and how its work room is parted.
pub mod Checks
