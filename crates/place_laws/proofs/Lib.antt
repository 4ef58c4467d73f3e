-- `Places` has the place of each check, and of the checks of a call.
pub mod Places
-- `Outcomes` has the place of an outcome.
pub mod Outcomes
