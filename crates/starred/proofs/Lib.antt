-- `Starred` has the starred examples of document 01: what is found is what is stated.
pub mod Starred
