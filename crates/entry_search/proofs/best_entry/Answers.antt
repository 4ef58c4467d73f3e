-- `entry_search::best_entry` meets its contract. The invariant: the choice is the best of the wanted entries of the faces that were passed. Assumes nothing.
use Prim.Native.Nat.{◌+◌}
use mathlib.Core.Path.{◌≡◌}
use native.Mathlib.Omega.{arith}
use Rattle.std.proofs.Common.{rules}
use Rattle.std.specs.Prelude.{option_map}
use Rattle.entry_search.proofs.Counting.{candidate_ok}
use Rattle.entry_search.proofs.Picking.{begin, consider_ok, again, done}
use Rattle.entry_search.proofs.best_entry.Goals as goal

-- src/lib.rt:270:9
pub next_indexed-f-requires : goal.next_indexed-f-requires
next_indexed-f-requires c = (record { indexed = c.requires.indexed; candidate_asks = candidate_ok c.requires.best_asks.worded 0 (omega arith) })

-- src/lib.rt:271:5
pub loop-f-init : goal.loop-f-init
loop-f-init c = begin c.requires.best_asks c.args.directed c.args.a c.args.b c.args.walk c.args.but c.next_indexed-f.ensures

-- src/lib.rt:272:9
pub consider-best-requires : goal.consider-best-requires
consider-best-requires c = consider_ok c.requires.best_asks c.args.directed c.args.a c.args.b c.args.walk c.args.but c.loop-f.invariant c.loop-f-test.true

-- src/lib.rt:273:9
pub next_indexed-f-requires-in-loop-f : goal.next_indexed-f-requires-in-loop-f
next_indexed-f-requires-in-loop-f c = (record { indexed = c.requires.indexed; candidate_asks = candidate_ok c.requires.best_asks.worded (c.loop-f.f + 1) (omega arith) })

-- src/lib.rt:271:5
pub loop-f-smaller : goal.loop-f-smaller
loop-f-smaller c = omega (arith, c.next_indexed-f-in-loop-f.ensures.least)

-- src/lib.rt:271:5
pub loop-f-preserved : goal.loop-f-preserved
loop-f-preserved c = again c.requires.best_asks c.args.directed c.args.a c.args.b c.args.walk c.args.but c.loop-f.invariant c.loop-f-test.true c.consider-best.ensures c.next_indexed-f-in-loop-f.ensures

pub returns : goal.returns
returns c =
    let e : c.map.result ≡ option_map (λ k. k.face) c.loop-f.best = search rules in
    rw e (done c.requires.best_asks c.args.directed c.args.a c.args.b c.args.walk c.args.but c.loop-f.best c.loop-f.f c.loop-f.invariant c.loop-f-test.false)
