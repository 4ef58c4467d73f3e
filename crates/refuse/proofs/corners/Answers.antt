-- `refuse::corners` meets its contract: all faces before i are without fault. Assumes nothing.
use mathlib.Core.Path.{sym, ◌∙◌}
use Prim.Native.Nat.{◌-◌}
use Rattle.refuse.proofs.Scans.{clean_begin, clean_more, no5_none, no5_at}
use Rattle.refuse.proofs.corners.Goals as goal

pub loop-i-init : goal.loop-i-init
loop-i-init c = clean_begin _ _

pub astray-requires : goal.astray-requires
astray-requires c = c.loop-i-test.true

pub returns-then-astray : goal.returns-then-astray
returns-then-astray c = no5_at _ _ _ c.loop-i.invariant c.loop-i-test.true (sym c.astray.ensures ∙ c.if-astray.true)

pub loop-i-preserved : goal.loop-i-preserved
loop-i-preserved c = clean_more _ _ _ c.loop-i.invariant c.loop-i-test.true (sym c.astray.ensures ∙ c.if-astray.false)

pub returns : goal.returns
returns c = no5_none _ _ _ c.loop-i.invariant c.loop-i-test.false
