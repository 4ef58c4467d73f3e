-- `Walking` has the walk from a vertex.
pub mod Walking
-- `Mirrored` has the reversed listing.
pub mod Mirrored
-- `Growth` has the rules' loops as they grow by one vertex.
pub mod Growth
-- `Adding` has that growth in the rooms.
pub mod Adding
-- `Tracing` has all vertices in turn.
pub mod Tracing
-- `Rooms` has the two rooms once their rest is cleared.
pub mod Rooms
