-- `refuse::known` meets its contract: all labels before i are without fault. Assumes nothing.
use mathlib.Core.Path.{sym, ◌∙◌}
use Prim.Native.Nat.{◌-◌}
use Rattle.refuse.proofs.Scans.{clean_begin, clean_more, no9_none, no9_at}
use Rattle.refuse.proofs.known.Goals as goal

pub loop-i-init : goal.loop-i-init
loop-i-init c = clean_begin _ _

pub returns-then-strange : goal.returns-then-strange
returns-then-strange c = let l = c.before.before.before in
    no9_at _ _ _ l.loop-i.invariant l.loop-i-test.true (sym c.strange.ensures ∙ c.if-strange.true)

pub loop-i-preserved : goal.loop-i-preserved
loop-i-preserved c = let l = c.before.before.before in
    clean_more _ _ _ l.loop-i.invariant l.loop-i-test.true (sym c.strange.ensures ∙ c.if-strange.false)

pub returns : goal.returns
returns c = no9_none _ _ _ c.loop-i.invariant c.loop-i-test.false
