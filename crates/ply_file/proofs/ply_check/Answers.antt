-- `ply_file::ply_check` meets its contract: the header, then each group of checks. Assumes nothing.
use Rattle.std.proofs.lemmas.Result.{err_from_is_err_and}
use Rattle.refuse.proofs.Groups.{hand_on, go_on, last}
use Rattle.ply_file.proofs.Deciding.{is_formless, is_opened, body_asks, six}
use Rattle.ply_file.proofs.ply_check.Goals as goal

pub returns-in_default-clause-checks : goal.returns-in_default-clause-checks
returns-in_default-clause-checks c = is_formless _ _ c.in_default.ensures

pub returns-in_err-counts-clause-checks : goal.returns-in_err-counts-clause-checks
returns-in_err-counts-clause-checks c = let p = err_from_is_err_and c.from_residual.result c.from_residual.ensures.1 in
    rw (p.1, p.2) (hand_on _ _ _ _ (is_opened c.in-Some.ensures c.in_err-counts.ensures))

pub contents-requires : goal.contents-requires
contents-requires c = body_asks c.in-Some.ensures c.in_ok-counts.ensures

pub returns-in_err-contents-clause-checks : goal.returns-in_err-contents-clause-checks
returns-in_err-contents-clause-checks c = let p = err_from_is_err_and c.from_residual-in_err-contents.result c.from_residual-in_err-contents.ensures.1 in
    rw (p.1, p.2) (go_on _ _ _ (is_opened c.in-Some.ensures c.in_ok-counts.ensures) (hand_on _ _ _ _ c.in_err-contents.ensures))

pub short_room-requires : goal.short_room-requires
short_room-requires c = (body_asks c.in-Some.ensures c.in_ok-counts.ensures).limits

pub returns-in_err-short_room-clause-checks : goal.returns-in_err-short_room-clause-checks
returns-in_err-short_room-clause-checks c = let p = err_from_is_err_and c.from_residual-in_err-short_room.result c.from_residual-in_err-short_room.ensures.1 in
    let b = body_asks c.in-Some.ensures c.in_ok-counts.ensures in
    rw (p.1, p.2) (go_on _ _ _ (is_opened c.in-Some.ensures c.in_ok-counts.ensures) (go_on _ _ _ c.in_ok-contents.ensures (last _ _ (six b _ _ _ c.in_err-short_room.ensures))))

pub returns-clause-checks : goal.returns-clause-checks
returns-clause-checks c = let b = body_asks c.in-Some.ensures c.in_ok-counts.ensures in
    go_on _ _ _ (is_opened c.in-Some.ensures c.in_ok-counts.ensures) (go_on _ _ _ c.in_ok-contents.ensures (last _ _ (six b _ _ _ c.in_ok-short_room.ensures)))
