-- `list_check::split_line` meets its contract: one test after the other. Assumes nothing.
use mathlib.Core.Path.{sym, refl, ◌∙◌}
use native.Mathlib.Omega.{arith}
use Rattle.list_check.proofs.Order.{not_behind, is_behind}
use Rattle.list_check.proofs.Single.{bad_order, numbered_split, bad_many, bad_old, bad_new, bad_face, on_split}
use Rattle.list_check.proofs.Points.{point_asks}
use Rattle.list_check.proofs.split_line.Goals as goal

pub returns-then-splits-faces : goal.returns-then-splits-faces
returns-then-splits-faces c = bad_many _ _ _ (omega arith)

pub returns-then-old-points : goal.returns-then-old-points
returns-then-old-points c = bad_old _ _ _ c.if-old-points.true

pub returns-then-new-points : goal.returns-then-new-points
returns-then-new-points c = bad_new _ _ _ c.if-new-points.true

pub returns-then-ge : goal.returns-then-ge
returns-then-ge c = bad_order (numbered_split _ _ _) (not_behind _ _ c.ge.ensures c.if-ge.true)

pub returns-then-not-all_have : goal.returns-then-not-all_have
returns-then-not-all_have c = bad_face _ _ _ (omega arith) (sym c.if-not-all_have.true ∙ c.all_have.ensures)

pub take_point-requires : goal.take_point-requires
take_point-requires c = point_asks _ _ _ _ _ _ _ _ _ c.requires (omega arith) (sym c.if-not-all_have.false ∙ c.all_have.ensures)

pub returns : goal.returns
returns c = record { ends = refl; on = on_split _ _ _ c.requires.ready (omega arith) (omega arith) c.if-new-points.false (is_behind _ _ c.ge.ensures c.if-ge.false) (sym c.if-not-all_have.false ∙ c.all_have.ensures) c.take_point.ensures }
