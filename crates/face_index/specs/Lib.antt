-- `Index` has the bits that tell in which blocks of faces a point may be a corner, and what a search by them gives.
pub mod Index
