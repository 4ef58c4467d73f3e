-- `Sorted` has the sorted corners, point after point.
pub mod Sorted
