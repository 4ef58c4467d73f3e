-- `panel_refusal::adds_up` meets its contract: after k counts the others are to add up to what is left. Assumes nothing.
use native.Mathlib.Omega.{arith}
use Rattle.panel_refusal.proofs.Adding.{begin, too_much, again, done}
use Rattle.panel_refusal.proofs.adds_up.Goals as goal

pub loop-k-init : goal.loop-k-init
loop-k-init c = begin _ _

pub overflow_cast-taken : goal.overflow_cast-taken
overflow_cast-taken c = omega (arith, c.type_inv.counts c.loop-k.k)

pub overflow_mul-taken : goal.overflow_mul-taken
overflow_mul-taken c = omega (arith, c.type_inv.counts c.loop-k.k)

pub returns-then-left-taken : goal.returns-then-left-taken
returns-then-left-taken c = too_much c.loop-k.invariant c.loop-k-test.true c.if-left-taken.true

pub loop-k-preserved : goal.loop-k-preserved
loop-k-preserved c = again c.loop-k.invariant c.loop-k-test.true (omega arith)

pub returns : goal.returns
returns c = done c.loop-k.invariant c.loop-k-test.false
