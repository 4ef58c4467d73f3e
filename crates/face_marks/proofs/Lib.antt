-- `Taking` has a byte whose corners are taken over, `Faces` the loops over the faces of a split, `Putting` the loop over all faces.
pub mod Taking
pub mod Faces
pub mod Putting
