-- `verdict_try::run` is safe and ends: what is not refused is accepted. Assumes nothing.
use mathlib.Core.Path.{sym}
use Rattle.edge_check_refusal.proofs.Accept.{check_accepted}
use Rattle.verdict_try.proofs.run.Goals as goal

pub both-requires : goal.both-requires
both-requires g c = check_accepted _ _ 400 (sym c.in-Ok.ensures)
