-- `Told` has the lines that rows tell.
pub mod Told
