-- `Lines` has how long the lines are that tell passes 1 to 4, by the words of the faces, and what the functions ask and give.
pub mod Lines
