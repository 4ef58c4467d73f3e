-- `verdict_try::from_faces` is safe and ends: what is not refused is accepted. Assumes nothing.
use mathlib.Core.Path.{sym}
use Rattle.edge_check_refusal.proofs.Accept.{check_accepted}
use Rattle.verdict_try.proofs.from_faces.Goals as goal

pub loop_verdict-requires : goal.loop_verdict-requires
loop_verdict-requires g c = (check_accepted _ _ 4294967295 (sym c.in-Ok.ensures)).input
