-- `Ends` has the corners at the two ends of a step.
pub mod Ends
-- `Joining` has what the ends of steps have to do with pass 5's joining.
pub mod Joining
-- `Laid` has the rows that `flood` is given, and what it makes of them.
pub mod Laid
