-- `edges_refusal::short_room` meets its contract: the first room that is too short, or none. Assumes nothing.
use native.Mathlib.Omega.{arith}
use Rattle.edges_refusal.proofs.Short.{short_0, short_1, short_2, short_3, long}
use Rattle.edges_refusal.proofs.short_room.Goals as goal

pub returns-then-rooms-f : goal.returns-then-rooms-f
returns-then-rooms-f c = short_0 _ _ _ _ _ _ (omega arith)

pub returns-then-rooms-f-2 : goal.returns-then-rooms-f-2
returns-then-rooms-f-2 c = short_1 _ _ _ _ _ _ (omega arith) (omega arith)

pub returns-then-rooms-f-3 : goal.returns-then-rooms-f-3
returns-then-rooms-f-3 c = short_2 _ _ _ _ _ _ (omega arith) (omega arith) (omega arith)

pub returns-then-rooms-stated_work : goal.returns-then-rooms-stated_work
returns-then-rooms-stated_work c = short_3 _ _ _ _ _ _ (omega arith) (omega arith) (omega arith) (omega arith)

pub returns : goal.returns
returns c = long _ _ _ _ _ _ (omega arith) (omega arith) (omega arith) (omega arith)
