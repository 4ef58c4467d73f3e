-- `Parts` has the parts of the work room, `Put` what the text leaves in the rooms.
pub mod Parts
pub mod Put
