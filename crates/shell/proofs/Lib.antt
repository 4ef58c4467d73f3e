pub mod Outcomes
pub mod Patching
pub mod PatchPlaces
pub mod StlPlaces
pub mod PlyPlaces
pub mod ApplyPlaces
pub mod ListPlaces
pub mod PanelPlaces
