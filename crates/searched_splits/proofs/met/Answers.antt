-- `searched_splits::met` meets its contract. The invariant: none of the faces that were passed has the point. Assumes nothing.
use mathlib.Core.Path.{sym, ◌∙◌}
use Prim.Native.Nat.{◌+◌}
use native.Mathlib.Omega.{arith}
use Rattle.searched_splits.proofs.Reading.{begin, ask, next_ask, again, hit, done}
use Rattle.searched_splits.proofs.met.Goals as goal

pub next_indexed-g-requires : goal.next_indexed-g-requires
next_indexed-g-requires c = record { indexed = c.requires.indexed; candidate_asks = next_ask c.requires.has_asks 0 (omega arith) }

pub loop-g-init : goal.loop-g-init
loop-g-init c = begin c.next_indexed-g.ensures

pub has_point-requires : goal.has_point-requires
has_point-requires c = ask c.requires.has_asks c.loop-g-test.true

pub returns-then-has_point : goal.returns-then-has_point
returns-then-has_point c = hit _ _ _ _ _ c.loop-g-test.true (sym c.has_point.ensures ∙ c.if-has_point.true)

pub overflow_add-g : goal.overflow_add-g
overflow_add-g c = let p = c.requires.has_asks in
    omega (arith, c.loop-g-test.true, p.here, p.worded.few)

pub next_indexed-g-requires-in-loop-g : goal.next_indexed-g-requires-in-loop-g
next_indexed-g-requires-in-loop-g c = record { indexed = c.requires.indexed; candidate_asks = next_ask c.requires.has_asks (c.loop-g.g + 1) (omega (arith, c.loop-g-test.true)) }

pub loop-g-smaller : goal.loop-g-smaller
loop-g-smaller c = omega (arith, c.loop-g-test.true, c.next_indexed-g-in-loop-g.ensures.least)

pub loop-g-preserved : goal.loop-g-preserved
loop-g-preserved c = again c.loop-g.invariant (sym c.has_point.ensures ∙ c.if-has_point.false) c.next_indexed-g-in-loop-g.ensures

pub returns : goal.returns
returns c = done c.loop-g.invariant c.loop-g-test.false
