-- `Facing` has one face of a room changed, and the faces that then stand.
pub mod Facing
-- `Gone` has faces that are gone, by their origins: what is left of those that stand.
pub mod Gone
-- `Standing` has what a bench that stands in the rooms says of a line that applies to it, and how it stands when the line's change is made.
pub mod Standing
-- `Finishing` has how the parts of `finish` make what it gives.
pub mod Finishing
-- `Ending` has the mesh that the rules make of a bench, in the rooms.
pub mod Ending
