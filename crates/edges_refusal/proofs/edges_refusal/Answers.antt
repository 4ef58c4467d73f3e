-- `edges_refusal::edges_refusal` meets its contract: each group of checks found nothing, or decides. Assumes nothing.
use mathlib.Core.Path.{sym}
use Rattle.std.proofs.lemmas.Result.{err_from_is_err_and}
use Rattle.refuse.proofs.Groups.{hand_on, go_on, last}
use Rattle.refuse.proofs.Singles.{sizes_fine}
use Rattle.edges_refusal.proofs.edges_refusal.Goals as goal

pub returns-in_err-sizes : goal.returns-in_err-sizes
returns-in_err-sizes c = let p = err_from_is_err_and c.from_residual.result c.from_residual.ensures.1 in
    rw (p.1, p.2) (hand_on _ _ _ _ c.in_err-sizes.ensures)

pub returns-in_err-contents : goal.returns-in_err-contents
returns-in_err-contents c = let p = err_from_is_err_and c.from_residual-in_err-contents.result c.from_residual-in_err-contents.ensures.1 in
    rw (p.1, p.2) (go_on _ _ _ c.in_ok-sizes.ensures (hand_on _ _ _ _ c.in_err-contents.ensures))

pub short_room-requires : goal.short_room-requires
short_room-requires c = sizes_fine _ _ (sym c.in_ok-sizes.ensures)

pub returns : goal.returns
returns c = go_on _ _ _ c.in_ok-sizes.ensures (go_on _ _ _ c.in_ok-contents.ensures (last _ _ c.short_room.ensures))
