-- `Running` has what it is that lines run on a bench, and their order.
pub mod Running
-- `Dropping` has the lines of faces that leave.
pub mod Dropping
-- `Exchanging` has the lines of corners exchanged.
pub mod Exchanging
-- `Weights` has the most bytes that lines may need, and bounds on their numbers.
pub mod Weights
-- `Taking` has the faces that take a copy of a point.
pub mod Taking
-- `Copying` has the lines of points that are split.
pub mod Copying
-- `Isolating` has the lines of unused points, and the mesh that a bench leaves.
pub mod Isolating
-- `Rise` has that origins rise strictly, whatever the options are.
pub mod Rise
-- `Listed` has that the written lines run, and leave the repaired mesh.
pub mod Listed
-- `Decimals` has that a number written is read back.
pub mod Decimals
-- `Parting` has that lines and fields written are parted again.
pub mod Parting
-- `ReadBack` has that the text of lines is read as these lines.
pub mod ReadBack
-- `Bounded` has bounds on the numbers and on the length of the text.
pub mod Bounded
-- `Agreed` has the agreement: the text that is written applies, and gives the repaired mesh.
pub mod Agreed
-- `InCalls` has the agreement in the words of the calls that write a list, apply it and repair.
pub mod InCalls
-- `Exact` has that the walk of pass 4 counts the faces that it exchanged.
pub mod Exact
-- `Telling` has that the lines of each kind are as many as the report tells.
pub mod Telling
