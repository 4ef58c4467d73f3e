-- `Adding` has what is added to a row of fates, `Fating` what passes 1 to 4 leave in their rooms and in it.
pub mod Adding
pub mod Fating
