-- `Turns` has exchanged faces: their steps and the users of edges; lists of faces under their states.
pub mod Turns
-- `Alone` has the number that says whether some other face was met.
pub mod Alone
-- `Reached` has the walk across an edge, in two parts.
pub mod Reached
-- `Room` has the bounds of the walk's stack and counts.
pub mod Room
-- `Users` has that a user of an edge steps along it, one way or the other.
pub mod Users
