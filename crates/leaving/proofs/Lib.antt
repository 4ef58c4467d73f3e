pub mod Leaving
pub mod ByFlags
pub mod Standing
