-- `stl_file::corners` meets its contract: all corners before c are without fault. Assumes nothing.
use mathlib.Core.Path.{sym, ◌∙◌}
use native.Mathlib.Omega.{arith}
use Rattle.refuse.proofs.Scans.{clean_begin, clean_more}
use Rattle.stl_file.proofs.Scanning.{corner_asks, no4_none, no4_at, turn}
use Rattle.stl_file.proofs.corners.Goals as goal

pub overflow_mul-c-end : goal.overflow_mul-c-end
overflow_mul-c-end c = omega (arith, turn c.requires)

pub loop-c-init : goal.loop-c-init
loop-c-init c = clean_begin _ _

pub far-requires : goal.far-requires
far-requires c = corner_asks c.requires c.loop-c-test.true

pub returns-then-far : goal.returns-then-far
returns-then-far c = no4_at c.requires _ c.loop-c.invariant c.loop-c-test.true (sym c.far.ensures ∙ c.if-far.true)

pub loop-c-preserved : goal.loop-c-preserved
loop-c-preserved c = clean_more _ _ _ c.loop-c.invariant c.loop-c-test.true (sym c.far.ensures ∙ c.if-far.false)

pub returns : goal.returns
returns c = no4_none c.requires _ c.loop-c.invariant c.loop-c-test.false
