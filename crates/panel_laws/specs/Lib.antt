-- `Cutting` has where a mesh stands among packed ones.
pub mod Cutting
