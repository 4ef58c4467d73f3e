-- `searched_walk::across` meets its contract. The invariant: the users of the edge among the faces that were passed were met. Assumes nothing.
use Prim.Native.Nat.{◌+◌}
use native.Mathlib.Omega.{arith}
use Rattle.entry_search.proofs.Counting.{candidate_ok}
use Rattle.searched_walk.proofs.Meeting.{cross_begin, cross_ask, cross_again, cross_done}
use Rattle.searched_walk.proofs.across.Goals as goal

-- src/lib.rt:134:9
pub next_indexed-g-requires : goal.next_indexed-g-requires
next_indexed-g-requires c = record { indexed = c.requires.indexed; candidate_asks = candidate_ok c.requires.meet_asks.ready.worded 0 (omega arith) }

-- src/lib.rt:135:5
pub loop-g-init : goal.loop-g-init
loop-g-init c = cross_begin c.requires.meet_asks c.args.a c.args.b c.next_indexed-g.ensures

-- src/lib.rt:136:9
pub meet_face-now-requires : goal.meet_face-now-requires
meet_face-now-requires c = cross_ask c.requires.meet_asks c.args.a c.args.b c.loop-g.invariant c.loop-g-test.true

-- src/lib.rt:137:9
pub next_indexed-g-requires-in-loop-g : goal.next_indexed-g-requires-in-loop-g
next_indexed-g-requires-in-loop-g c = record { indexed = c.requires.indexed; candidate_asks = candidate_ok c.requires.meet_asks.ready.worded (c.loop-g.g + 1) (omega (arith, c.loop-g.invariant.gives.kept.long, c.loop-g-test.true)) }

-- src/lib.rt:135:5
pub loop-g-smaller : goal.loop-g-smaller
loop-g-smaller c = omega (arith, c.loop-g.invariant.gives.kept.long, c.loop-g-test.true, c.next_indexed-g-in-loop-g.ensures.least)

-- src/lib.rt:135:5
pub loop-g-preserved : goal.loop-g-preserved
loop-g-preserved c = cross_again c.requires.meet_asks c.args.a c.args.b c.loop-g.invariant c.loop-g-test.true c.meet_face-now.ensures c.next_indexed-g-in-loop-g.ensures

-- src/lib.rt:129:1
pub shape_of-words : goal.shape_of-words
shape_of-words c = c.loop-g.invariant.gives.kept.long

-- src/lib.rt:129:1
pub returns : goal.returns
returns c = cross_done c.requires.meet_asks c.args.a c.args.b c.loop-g.invariant c.loop-g-test.false
