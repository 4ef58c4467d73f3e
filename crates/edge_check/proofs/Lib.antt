-- `Directed` has the edge check's yes by the number of directed edges.
pub mod Directed
-- `Corners` has what a scan of the faces knows of repeated corners.
pub mod Corners
-- `Meeting` has the groups at a point by the corners that stand first in them, as a scan meets them.
pub mod Meeting
-- `Tabling` has what a table of directed edges and the groups of the corners say of the answer.
pub mod Tabling
-- `Ending` has the outcome of the call.
pub mod Ending
