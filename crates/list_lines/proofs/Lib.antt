-- `Fields` has the first of some fields and the parts of a text. `Reasons` has the reason that pass and word
-- tell, `Rises` numbers that rise, `Telling` what the fields of a line tell and the next face of a split, `Letters` the line by its letter and the lines
-- of a text.
pub mod Fields
pub mod Reasons
pub mod Rises
pub mod Telling
pub mod Letters
