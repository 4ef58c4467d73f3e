pub mod Rank
