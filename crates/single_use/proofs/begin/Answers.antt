-- `single_use::begin` meets its contract: the corner at the entry, or the next one where its face is exchanged. Assumes nothing.
use native.Mathlib.Omega.{arith}
use Rattle.single_use.proofs.Scanning.{begin_turned, begin_straight}
use Rattle.single_use.proofs.begin.Goals as goal

pub returns-then-work-states-eq2 : goal.returns-then-work-states-eq2
returns-then-work-states-eq2 c = begin_turned c.requires (omega arith) c.after-j.ensures

pub returns : goal.returns
returns c = begin_straight c.requires (omega arith)
