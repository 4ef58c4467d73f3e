-- `Leaving` speaks of what `repair_panel` and `repair` leave in their rooms, `InC` of what C gets.
pub mod Leaving
pub mod InC
