-- `searched_unused::is_used` meets its contract. The invariant: none of the faces that were passed holds the point. Assumes nothing.
use native.Mathlib.Omega.{arith}
use Prim.Native.Nat.{◌+◌}
use Rattle.searched_unused.proofs.Using.{candidate_ok, none_begin, none_again, none_done, found}
use Rattle.searched_unused.proofs.is_used.Goals as goal

pub next_indexed-g-requires : goal.next_indexed-g-requires
next_indexed-g-requires c = record { indexed = c.requires.indexed; candidate_asks = candidate_ok c.requires.worded 0 (omega arith) }

pub loop-g-init : goal.loop-g-init
loop-g-init c = none_begin c.requires.worded c.args.v c.next_indexed-g.ensures

pub holds-requires : goal.holds-requires
holds-requires c = record { worded = c.requires.worded; here = c.loop-g-test.true }

pub returns-then-holds : goal.returns-then-holds
returns-then-holds c = found c.requires.worded c.args.v c.loop-g-test.true c.holds.ensures c.if-holds.true

pub next_indexed-g-requires-in-loop-g : goal.next_indexed-g-requires-in-loop-g
next_indexed-g-requires-in-loop-g c = record { indexed = c.requires.indexed; candidate_asks = candidate_ok c.requires.worded (c.loop-g.g + 1) (omega arith) }

pub loop-g-smaller : goal.loop-g-smaller
loop-g-smaller c = omega (arith, c.next_indexed-g-in-loop-g.ensures.least)

pub loop-g-preserved : goal.loop-g-preserved
loop-g-preserved c = none_again c.requires.worded c.args.v c.loop-g.invariant c.holds.ensures c.if-holds.false c.next_indexed-g-in-loop-g.ensures

pub returns : goal.returns
returns c = none_done c.requires.worded c.args.v c.loop-g.invariant c.loop-g-test.false
