-- `refuse::coordinates` meets its contract: all points before i are without fault. Assumes nothing.
use mathlib.Core.Path.{sym, ◌∙◌}
use Prim.Native.Nat.{◌-◌}
use Rattle.refuse.proofs.Scans.{clean_begin, clean_more, no4_none, no4_at}
use Rattle.refuse.proofs.coordinates.Goals as goal

pub loop-i-init : goal.loop-i-init
loop-i-init c = clean_begin _ _

pub far-requires : goal.far-requires
far-requires c = c.loop-i-test.true

pub returns-then-far : goal.returns-then-far
returns-then-far c = no4_at _ _ c.loop-i.invariant c.loop-i-test.true (sym c.far.ensures ∙ c.if-far.true)

pub loop-i-preserved : goal.loop-i-preserved
loop-i-preserved c = clean_more _ _ _ c.loop-i.invariant c.loop-i-test.true (sym c.far.ensures ∙ c.if-far.false)

pub returns : goal.returns
returns c = no4_none _ _ c.loop-i.invariant c.loop-i-test.false
