-- `refuse::sizes` meets its contract. Assumes nothing.
use Rattle.refuse.proofs.Groups.{stop_at, go_past}
use Rattle.refuse.proofs.Singles.{thirds, no_thirds}
use Rattle.refuse.proofs.sizes.Goals as goal

pub returns-then-points-ne0 : goal.returns-then-points-ne0
returns-then-points-ne0 c = stop_at _ _ _ _ (no_thirds _ _ c.if-points-ne0.true)

pub returns-then-faces-ne0 : goal.returns-then-faces-ne0
returns-then-faces-ne0 c = go_past _ _ _ (thirds _ _ c.if-points-ne0.false) (stop_at _ _ _ _ (no_thirds _ _ c.if-faces-ne0.true))

pub returns : goal.returns
returns c = go_past _ _ _ (thirds _ _ c.if-points-ne0.false) (go_past _ _ _ (thirds _ _ c.if-faces-ne0.false) c.counts.ensures)
