-- `Pointing` has the loop over the coordinates, `Facing` that over the faces, `Ending` the outcome of the call.
pub mod Pointing
pub mod Facing
pub mod Ending
