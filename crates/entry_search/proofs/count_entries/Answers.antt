-- `entry_search::count_entries` meets its contract. The invariant: the entries of the faces that were passed are counted. Assumes nothing.
use Prim.Native.Nat.{◌+◌}
use native.Mathlib.Omega.{arith}
use Rattle.rules.specs.Steps.{step}
use Rattle.entry_search.specs.Searching.{along}
use Rattle.entry_search.proofs.Counting.{uses_most, candidate_ok, begin, view_ok, again, done}
use Rattle.entry_search.proofs.count_entries.Goals as goal

-- src/lib.rt:130:9
pub next_indexed-f-requires : goal.next_indexed-f-requires
next_indexed-f-requires c = (record { indexed = c.requires.indexed; candidate_asks = candidate_ok c.requires.worded 0 (omega arith) })

-- src/lib.rt:131:5
pub loop-f-init : goal.loop-f-init
loop-f-init c = begin c.requires.worded c.next_indexed-f.ensures

-- src/lib.rt:132:14
pub entries_of-n-requires : goal.entries_of-n-requires
entries_of-n-requires c = view_ok c.requires.worded c.loop-f.invariant c.loop-f-test.true

-- src/lib.rt:132:9
pub overflow_add-n : goal.overflow_add-n
overflow_add-n c = omega (arith, c.loop-f.invariant, c.requires.worded, uses_most (along c.args.directed (step c.args.a c.args.b)) c.args.faces.now c.args.words.now c.loop-f.f, c.entries_of-n.ensures)

-- src/lib.rt:133:9
pub next_indexed-f-requires-in-loop-f : goal.next_indexed-f-requires-in-loop-f
next_indexed-f-requires-in-loop-f c = (record { indexed = c.requires.indexed; candidate_asks = candidate_ok c.requires.worded (c.loop-f.f + 1) (omega arith) })

-- src/lib.rt:131:5
pub loop-f-smaller : goal.loop-f-smaller
loop-f-smaller c = omega (arith, c.next_indexed-f-in-loop-f.ensures.least)

-- src/lib.rt:131:5
pub loop-f-preserved : goal.loop-f-preserved
loop-f-preserved c = again c.requires.worded c.loop-f.invariant c.loop-f-test.true c.entries_of-n.ensures c.next_indexed-f-in-loop-f.ensures

-- src/lib.rt:125:1
pub returns : goal.returns
returns c = done c.requires.worded c.loop-f.invariant c.loop-f-test.false
