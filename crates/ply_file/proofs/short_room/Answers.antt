-- `ply_file::short_room` meets its contract: the first room that is too short, or none. Assumes nothing.
use native.Mathlib.Omega.{arith}
use Rattle.ply_file.proofs.Short.{short_0, short_1, short_2, long}
use Rattle.ply_file.proofs.short_room.Goals as goal

pub returns-then-points-p : goal.returns-then-points-p
returns-then-points-p c = short_0 _ _ _ _ _ (omega arith)

pub returns-then-faces-f : goal.returns-then-faces-f
returns-then-faces-f c = short_1 _ _ _ _ _ (omega arith) (omega arith)

pub returns-then-work-stated_work : goal.returns-then-work-stated_work
returns-then-work-stated_work c = short_2 _ _ _ _ _ (omega arith) (omega arith) (omega arith)

pub returns : goal.returns
returns c = long _ _ _ _ _ (omega arith) (omega arith) (omega arith)
