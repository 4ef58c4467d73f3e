-- `write_ply_refusal::digits` meets its contract: k digits less one, and those of m, are all. Assumes nothing.
use native.Mathlib.Omega.{arith}
use Rattle.write_ply_refusal.proofs.Counting.{begin, again, done}
use Rattle.write_ply_refusal.proofs.digits.Goals as goal

pub loop-m-init : goal.loop-m-init
loop-m-init c = begin c.requires

pub overflow_add-k : goal.overflow_add-k
overflow_add-k c = omega (arith, c.loop-m.invariant.short, c.loop-m.invariant.all)

pub loop-m-preserved : goal.loop-m-preserved
loop-m-preserved c = again c.loop-m.invariant c.loop-m-test.true

pub returns : goal.returns
returns c = done c.loop-m.invariant c.loop-m-test.false
