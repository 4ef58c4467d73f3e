-- `panel_refusal::panel_refusal` meets its contract: each group of checks found nothing, or decides. Assumes nothing.
use mathlib.Core.Path.{sym}
use native.Mathlib.Omega.{arith}
use Rattle.std.proofs.lemmas.Result.{err_from_is_err_and}
use Rattle.refuse.proofs.Groups.{hand_on, go_on, last}
use Rattle.panel_refusal.proofs.Accept.{rows_accepted, six_is}
use Rattle.panel_refusal.proofs.panel_refusal.Goals as goal

pub returns-in_err-rows : goal.returns-in_err-rows
returns-in_err-rows c = let p = err_from_is_err_and c.from_residual.result c.from_residual.ensures.1 in
    rw (p.1, p.2) (hand_on _ _ _ _ c.in_err-rows.ensures)

pub returns-in_err-settings : goal.returns-in_err-settings
returns-in_err-settings c = let p = err_from_is_err_and c.from_residual-in_err-settings.result c.from_residual-in_err-settings.ensures.1 in
    rw (p.1, p.2) (go_on _ _ _ c.in_ok-rows.ensures (hand_on _ _ _ _ c.in_err-settings.ensures))

pub largest-requires : goal.largest-requires
largest-requires c = (rows_accepted _ _ _ _ (sym c.in_ok-rows.ensures)).same

pub short_room-requires : goal.short_room-requires
short_room-requires c = let r = rows_accepted _ _ _ _ (sym c.in_ok-rows.ensures) in
    record { points = omega (arith, c.well_formed.0); faces = omega (arith, c.well_formed.1.0); meshes = r.few }

pub returns : goal.returns
returns c = go_on _ _ _ c.in_ok-rows.ensures (go_on _ _ _ c.in_ok-settings.ensures (last _ _ (six_is _ _ _ _ _ _ _ (rows_accepted _ _ _ _ (sym c.in_ok-rows.ensures)) c.largest.ensures c.short_room.ensures)))
