-- `Bits` has the order of areas by their bits, `Ranking` ranks by the cut, `Laying` and `Scanning` the loops, `Keeping` the three cases.
pub mod Bits
pub mod Ranking
pub mod Laying
pub mod Scanning
pub mod Keeping
