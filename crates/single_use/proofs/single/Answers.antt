-- `single_use::single` meets its contract: no run before r is at odds. Assumes nothing.
use mathlib.Core.Path.{refl}
use native.Mathlib.Omega.{arith}
use Rattle.orienting.proofs.Reached.{not_both}
use Rattle.single_use.proofs.Opposing.{once}
use Rattle.single_use.proofs.Scanning.{none_passed, one_passed}
use Rattle.single_use.proofs.single.Goals as goal

pub loop-r-init : goal.loop-r-init
loop-r-init c = none_passed (omega arith)

pub returns-then-at_odds : goal.returns-then-at_odds
returns-then-at_odds c = λ e. absurd (not_both e refl)

pub loop-r-preserved : goal.loop-r-preserved
loop-r-preserved c = one_passed c.loop-r.invariant (c.at_odds.ensures c.if-at_odds.false)

pub returns : goal.returns
returns c = λ e. once c.requires (λ r h. c.loop-r.invariant.each r (omega arith))
