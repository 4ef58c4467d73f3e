-- `write_ply_refusal::short_room` meets its contract: the first room that is too short, or none. Assumes nothing.
use native.Mathlib.Omega.{arith}
use Rattle.write_ply_refusal.proofs.Short.{short_0, short_1, long}
use Rattle.write_ply_refusal.proofs.short_room.Goals as goal

pub returns-then-rooms-file_length : goal.returns-then-rooms-file_length
returns-then-rooms-file_length c = short_0 _ _ _ _ (omega arith)

pub returns-then-rooms-stated_work : goal.returns-then-rooms-stated_work
returns-then-rooms-stated_work c = short_1 _ _ _ _ (omega arith) (omega arith)

pub returns : goal.returns
returns c = long _ _ _ _ (omega arith) (omega arith)
