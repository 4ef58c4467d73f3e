-- `Zero` says what the number 0 tells C, and `InC` what then stands in the rooms.
pub mod Zero
pub mod InC
