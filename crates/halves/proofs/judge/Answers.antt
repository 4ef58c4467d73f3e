-- `halves::judge` meets its contract. Assumes nothing.
use Rattle.halves.proofs.Judging.{vertex_right, fine_right}
use Rattle.halves.proofs.judge.Goals as goal

pub returns-in-Some : goal.returns-in-Some
returns-in-Some c = vertex_right c.close-o.ensures c.in-Some.is

pub returns-in-None : goal.returns-in-None
returns-in-None c = fine_right c.close-o.ensures c.in-None.is
