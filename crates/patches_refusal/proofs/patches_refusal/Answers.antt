-- `patches_refusal::patches_refusal` meets its contract: each group of checks found nothing, or decides. Assumes nothing.
use Rattle.std.proofs.lemmas.Result.{err_from_is_err_and}
use Rattle.refuse.proofs.Groups.{hand_on, go_on, last, stop_at, go_past}
use Rattle.refuse.proofs.Singles.{few, many}
use Rattle.patches_refusal.proofs.patches_refusal.Goals as goal

pub returns-in_err-sizes : goal.returns-in_err-sizes
returns-in_err-sizes c = let p = err_from_is_err_and c.from_residual.result c.from_residual.ensures.1 in
    rw (p.1, p.2) (hand_on _ _ _ _ c.in_err-sizes.ensures)

pub returns-then-count-gt-MOST_PATCHES : goal.returns-then-count-gt-MOST_PATCHES
returns-then-count-gt-MOST_PATCHES c = go_on _ _ _ c.in_ok-sizes.ensures (stop_at _ _ _ _ (many _ _ _ c.if-count-gt-MOST_PATCHES.true))

pub returns-in_err-contents : goal.returns-in_err-contents
returns-in_err-contents c = let p = err_from_is_err_and c.from_residual-in_err-contents.result c.from_residual-in_err-contents.ensures.1 in
    rw (p.1, p.2) (go_on _ _ _ c.in_ok-sizes.ensures (go_past _ _ _ (few _ _ _ c.if-count-gt-MOST_PATCHES.false) (hand_on _ _ _ _ c.in_err-contents.ensures)))

pub returns-in_err-labelling : goal.returns-in_err-labelling
returns-in_err-labelling c = let p = err_from_is_err_and c.from_residual-in_err-labelling.result c.from_residual-in_err-labelling.ensures.1 in
    rw (p.1, p.2) (go_on _ _ _ c.in_ok-sizes.ensures (go_past _ _ _ (few _ _ _ c.if-count-gt-MOST_PATCHES.false) (go_on _ _ _ c.in_ok-contents.ensures (hand_on _ _ _ _ c.in_err-labelling.ensures))))

pub returns : goal.returns
returns c = go_on _ _ _ c.in_ok-sizes.ensures (go_past _ _ _ (few _ _ _ c.if-count-gt-MOST_PATCHES.false) (go_on _ _ _ c.in_ok-contents.ensures (go_on _ _ _ c.in_ok-labelling.ensures (last _ _ c.short_room.ensures))))
