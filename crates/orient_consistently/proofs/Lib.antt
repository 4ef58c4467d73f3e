-- `Popping` has one turn of the walk, and the walk until the stack is empty.
pub mod Popping
-- `Starting` has a component that is started.
pub mod Starting
-- `Beginning` has component after component.
pub mod Beginning
-- `Turning` has the faces under their states.
pub mod Turning
-- `Orienting` has the whole.
pub mod Orienting
-- `Settling` has that the walk is not needed where each directed edge is used at most once.
pub mod Settling
-- `Standing` has that the faces stand as before, for the next pass.
pub mod Standing
