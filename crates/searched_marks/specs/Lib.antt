-- `Marks` has which faces a pass marks, by their words, and what is left when the marked ones are gone.
pub mod Marks
