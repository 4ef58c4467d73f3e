pub mod Reporting
pub mod Ending
