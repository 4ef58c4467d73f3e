-- `Reading` has what the work room says of the walk.
pub mod Reading
-- `Visiting` has one face that is visited or reached.
pub mod Visiting
-- `Meeting` has who of a run does not make a step.
pub mod Meeting
-- `Running` has the loops over a run.
pub mod Running
-- `Neighbours` has a face that meets a user of an edge.
pub mod Neighbours
