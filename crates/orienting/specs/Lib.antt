-- The walk of pass 4 in two parts: neighbours are reached, and then the edge says whether some neighbour disagrees.
pub mod Reaching
