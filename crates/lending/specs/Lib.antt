pub mod Reports
pub mod Mended
