-- `apply_refusal::apply_refusal` meets its contract: each group of checks found nothing, or decides. Assumes nothing.
use mathlib.Core.Path.{sym}
use Rattle.std.proofs.lemmas.Result.{err_from_is_err_and}
use Rattle.refuse.proofs.Singles.{sizes_fine}
use Rattle.refuse.proofs.Groups.{hand_on, go_on, stop_at, go_past, last}
use Rattle.rules.specs.Mesh.{points_of}
use Rattle.rule_laws.proofs.Flat.{length_points}
use Rattle.apply_refusal.proofs.Accept.{input_is}
use Rattle.apply_refusal.proofs.apply_refusal.Goals as goal

pub returns-in_err-sizes : goal.returns-in_err-sizes
returns-in_err-sizes c = let p = err_from_is_err_and c.from_residual.result c.from_residual.ensures.1 in
    rw (p.1, p.2) (hand_on _ _ _ _ c.in_err-sizes.ensures)

pub returns-in_err-contents : goal.returns-in_err-contents
returns-in_err-contents c = let p = err_from_is_err_and c.from_residual-in_err-contents.result c.from_residual-in_err-contents.ensures.1 in
    rw (p.1, p.2) (go_on _ _ _ c.in_ok-sizes.ensures (hand_on _ _ _ _ c.in_err-contents.ensures))

pub bad_list-requires : goal.bad_list-requires
bad_list-requires c = (input_is _ _ c.in_ok-sizes.ensures c.in_ok-contents.ensures).faces_fine

pub returns-in_err-bad_list : goal.returns-in_err-bad_list
returns-in_err-bad_list c = let p = err_from_is_err_and c.from_residual-in_err-bad_list.result c.from_residual-in_err-bad_list.ensures.1 in
    rw (p.1, p.2) (go_on _ _ _ c.in_ok-sizes.ensures
    (go_on _ _ _ c.in_ok-contents.ensures
    (stop_at _ _ _ _ (c.in_err-bad_list.ensures.is (points_of c.args.points.now) (length_points c.args.points.now)))))

pub short_room-requires : goal.short_room-requires
short_room-requires c = sizes_fine _ _ (sym c.in_ok-sizes.ensures)

pub returns : goal.returns
returns c = go_on _ _ _ c.in_ok-sizes.ensures
    (go_on _ _ _ c.in_ok-contents.ensures
    (go_past _ _ _ (c.in_ok-bad_list.ensures.is (points_of c.args.points.now) (length_points c.args.points.now)) (last _ _ c.short_room.ensures)))
