-- `line::put_next` meets its contract. Assumes nothing.
use native.Mathlib.Omega.{arith}
use Rattle.line.proofs.Words.{more_none, part_asks, more_done}
use Rattle.line.proofs.put_next.Goals as goal

pub returns-then-n-eq0 : goal.returns-then-n-eq0
returns-then-n-eq0 c = more_none c.requires.part_asks (omega arith)

pub put_part-requires : goal.put_part-requires
put_part-requires c = record { part_asks = part_asks c.requires.part_asks c.put_comma-next.ensures; n_bound = c.requires.n_bound }

pub returns : goal.returns
returns c = more_done c.requires.part_asks c.put_comma-next.ensures (omega arith) c.put_part.ensures
