-- `apply_refusal::short_room` meets its contract: the first room that is too short, or none. Assumes nothing.
use native.Mathlib.Omega.{arith}
use Rattle.apply_refusal.proofs.Short.{short_0, short_1, short_2, long}
use Rattle.apply_refusal.proofs.short_room.Goals as goal

pub returns-then-rooms-p : goal.returns-then-rooms-p
returns-then-rooms-p c = short_0 _ _ _ _ _ (omega arith)

pub returns-then-rooms-f : goal.returns-then-rooms-f
returns-then-rooms-f c = short_1 _ _ _ _ _ (omega arith) (omega arith)

pub returns-then-rooms-stated_work : goal.returns-then-rooms-stated_work
returns-then-rooms-stated_work c = short_2 _ _ _ _ _ (omega arith) (omega arith) (omega arith)

pub returns : goal.returns
returns c = long _ _ _ _ _ (omega arith) (omega arith) (omega arith)
