-- `Called` speaks of the calls, `Shelled` of their C functions, `Written` of the text of `meshfix`; `Numbered` says that no refusal has the number 0.
pub mod Called
pub mod Shelled
pub mod Written
pub mod Numbered
