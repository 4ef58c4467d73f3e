-- `Texts` has how long a line of passes 1 to 4 is.
pub mod Texts
-- `Lining` has the line of one face.
pub mod Lining
-- `Telling` has the lines of a pass, by the faces.
pub mod Telling
-- `Summing` has the loops that add up lines.
pub mod Summing
-- `Passing` has the words after a pass, and the state that they stand for.
pub mod Passing
