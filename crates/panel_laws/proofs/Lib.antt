-- `Alone` has that a repair does not depend on what its rooms held, and how long its parts are.
pub mod Alone
-- `Packing` has the repairs of packed meshes one after the other, their sums and their largest work room.
pub mod Packing
-- `Telling` has what a mesh's four entries tell of its parts, and which numbers it may be given.
pub mod Telling
-- `Cuts` has a room of parts one after the other, cut into them.
pub mod Cuts
-- `Taken` has what an accepted call for packed meshes says of what it was given, and what it leaves.
pub mod Taken
-- `Packs` has that packed rooms, cut by the meshes room alone, give what each repair shares.
pub mod Packs
-- `Mesh3` has demand 3 of a mesh that is given by its flat lists.
pub mod Mesh3
-- `Panels` has request 9 in the words of the call.
pub mod Panels
-- `OneMesh` has a call for one mesh.
pub mod OneMesh
