-- `Outcomes` has the agreement in the rules' outcomes, `Called` of what our calls leave in their rooms, `InC` of what C gets.
pub mod Outcomes
pub mod Called
pub mod InC
