-- `line::put_comma` meets its contract. Assumes nothing.
use native.Mathlib.Omega.{arith}
use lib.ListN.{length-set}
use Rattle.line.proofs.Words.{comma_none, comma_some}
use Rattle.line.proofs.put_comma.Goals as goal

pub returns-then-at-eq0 : goal.returns-then-at-eq0
returns-then-at-eq0 c = comma_none (omega arith)

pub bounds-line-at-2 : goal.bounds-line-at-2
bounds-line-at-2 c = simp length-set (omega arith)

pub returns : goal.returns
returns c = comma_some (omega arith) c.requires
