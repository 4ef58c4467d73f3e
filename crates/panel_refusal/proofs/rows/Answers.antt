-- `panel_refusal::rows` meets its contract: each check finds nothing, or decides. Assumes nothing.
use mathlib.Core.Path.{ap}
use mathlib.Core.Bool.{not}
use mathlib.Core.Path.{sym, ◌∙◌}
use native.Mathlib.Omega.{arith}
use borrow.Author.Tests.{not-true, not-false}
use Rattle.refuse.proofs.Groups.{stop_at, go_past, last}
use Rattle.refuse.proofs.Singles.{few, many}
use Rattle.panel_refusal.proofs.Accept.{rows_same, rows_differ, sum_right, sum_wrong}
use Rattle.panel_refusal.proofs.rows.Goals as goal

pub returns-then-point_counts-face_counts : goal.returns-then-point_counts-face_counts
returns-then-point_counts-face_counts c = stop_at _ _ 1 0 (rows_differ _ _ c.if-point_counts-face_counts.true)

pub returns-then-not-adds_up : goal.returns-then-not-adds_up
returns-then-not-adds_up c = go_past _ _ _ (rows_same _ _ c.if-point_counts-face_counts.false)
    (stop_at _ _ 1 0 (sum_wrong 0 _ _ (sym (not-true _ (ap not c.if-not-adds_up.true)) ∙ c.adds_up.ensures)))

pub returns-then-not-adds_up-2 : goal.returns-then-not-adds_up-2
returns-then-not-adds_up-2 c = go_past _ _ _ (rows_same _ _ c.if-point_counts-face_counts.false)
    (go_past _ _ _ (sum_right 0 _ _ (sym (not-false _ (ap not c.if-not-adds_up.false)) ∙ c.adds_up.ensures))
    (stop_at _ _ 1 1 (sum_wrong 1 _ _ (sym (not-true _ (ap not c.if-not-adds_up-2.true)) ∙ c.adds_up-2.ensures))))

pub returns-then-point_counts-gt-MOST_MESHES : goal.returns-then-point_counts-gt-MOST_MESHES
returns-then-point_counts-gt-MOST_MESHES c = go_past _ _ _ (rows_same _ _ c.if-point_counts-face_counts.false)
    (go_past _ _ _ (sum_right 0 _ _ (sym (not-false _ (ap not c.if-not-adds_up.false)) ∙ c.adds_up.ensures))
    (go_past _ _ _ (sum_right 1 _ _ (sym (not-false _ (ap not c.if-not-adds_up-2.false)) ∙ c.adds_up-2.ensures))
    (stop_at _ _ 2 0 (many 0 _ _ (omega arith)))))

pub returns : goal.returns
returns c = go_past _ _ _ (rows_same _ _ c.if-point_counts-face_counts.false)
    (go_past _ _ _ (sum_right 0 _ _ (sym (not-false _ (ap not c.if-not-adds_up.false)) ∙ c.adds_up.ensures))
    (go_past _ _ _ (sum_right 1 _ _ (sym (not-false _ (ap not c.if-not-adds_up-2.false)) ∙ c.adds_up-2.ensures))
    (last _ _ (few 0 _ _ (omega arith)))))
