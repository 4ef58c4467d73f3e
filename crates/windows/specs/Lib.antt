pub mod Around
pub mod Window
