-- `refuse::counts` meets its contract. Assumes nothing.
use native.Mathlib.Omega.{arith}
use Rattle.refuse.proofs.Groups.{last, stop_at, go_past}
use Rattle.refuse.proofs.Singles.{few, many}
use Rattle.refuse.proofs.counts.Goals as goal

pub returns-then-p-gt-MOST_POINTS : goal.returns-then-p-gt-MOST_POINTS
returns-then-p-gt-MOST_POINTS c = stop_at _ _ _ _ (many _ _ _ (omega arith))

pub returns-then-f-gt-MOST_FACES : goal.returns-then-f-gt-MOST_FACES
returns-then-f-gt-MOST_FACES c = go_past _ _ _ (few _ _ _ (omega arith)) (stop_at _ _ _ _ (many _ _ _ (omega arith)))

pub returns : goal.returns
returns c = go_past _ _ _ (few _ _ _ (omega arith)) (last _ _ (few _ _ _ (omega arith)))
