-- `stl_file::rooms` meets its contract: the first room that is too short, or none. Assumes nothing.
use native.Mathlib.Omega.{arith}
use Rattle.stl_file.proofs.Checks.{short_0, short_1, short_2, long}
use Rattle.stl_file.proofs.rooms.Goals as goal

pub returns-then-points-count : goal.returns-then-points-count
returns-then-points-count c = short_0 _ _ _ _ (omega arith)

pub returns-then-faces-count : goal.returns-then-faces-count
returns-then-faces-count c = short_1 _ _ _ _ (omega arith) (omega arith)

pub returns-then-work-count : goal.returns-then-work-count
returns-then-work-count c = short_2 _ _ _ _ (omega arith) (omega arith) (omega arith)

pub returns : goal.returns
returns c = long _ _ _ _ (omega arith) (omega arith) (omega arith)
