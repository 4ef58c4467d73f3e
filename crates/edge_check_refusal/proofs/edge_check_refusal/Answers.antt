-- `edge_check_refusal::edge_check_refusal` meets its contract: each group of checks found nothing, or decides. Assumes nothing.
use mathlib.Core.Path.{sym}
use native.Mathlib.Omega.{arith}
use Rattle.std.proofs.lemmas.Result.{err_from_is_err_and}
use Rattle.refuse.proofs.Groups.{hand_on, go_on, last, stop_at, go_past}
use Rattle.refuse.proofs.Singles.{thirds, no_thirds, counts_fine}
use Rattle.edge_check_refusal.proofs.Short.{short_0, long}
use Rattle.edge_check_refusal.proofs.edge_check_refusal.Goals as goal

pub returns-then-faces-ne0 : goal.returns-then-faces-ne0
returns-then-faces-ne0 c = stop_at _ _ _ _ (no_thirds _ _ c.if-faces-ne0.true)

pub returns-in_err-counts : goal.returns-in_err-counts
returns-in_err-counts c = let p = err_from_is_err_and c.from_residual.result c.from_residual.ensures.1 in
    rw (p.1, p.2) (go_past _ _ _ (thirds _ _ c.if-faces-ne0.false) (hand_on _ _ _ _ c.in_err-counts.ensures))

pub returns-in_err-corners : goal.returns-in_err-corners
returns-in_err-corners c = let p = err_from_is_err_and c.from_residual-in_err-corners.result c.from_residual-in_err-corners.ensures.1 in
    rw (p.1, p.2) (go_past _ _ _ (thirds _ _ c.if-faces-ne0.false) (go_on _ _ _ c.in_ok-counts.ensures (stop_at _ _ _ _ c.in_err-corners.ensures)))

pub stated_work-requires : goal.stated_work-requires
stated_work-requires c = counts_fine _ _ (sym c.in_ok-counts.ensures)

pub returns-then-work-stated_work : goal.returns-then-work-stated_work
returns-then-work-stated_work c = go_past _ _ _ (thirds _ _ c.if-faces-ne0.false) (go_on _ _ _ c.in_ok-counts.ensures (go_past _ _ _ c.in_ok-corners.ensures (last _ _ (short_0 _ _ _ (omega arith)))))

pub returns : goal.returns
returns c = go_past _ _ _ (thirds _ _ c.if-faces-ne0.false) (go_on _ _ _ c.in_ok-counts.ensures (go_past _ _ _ c.in_ok-corners.ensures (last _ _ (long _ _ _ (omega arith)))))
