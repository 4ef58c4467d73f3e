-- `There`: a mesh written and read back. `Back`: a file read and written again. `Called`: the same of what the calls leave in their rooms.
pub mod There
pub mod Back
pub mod Called
