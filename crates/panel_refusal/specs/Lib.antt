pub mod Checks
