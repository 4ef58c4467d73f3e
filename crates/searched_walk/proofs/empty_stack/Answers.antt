-- `searched_walk::empty_stack` meets its contract. The invariant: what is left of the rule's run ends where it ends. Assumes nothing.
use mathlib.Core.Path.{◌≡◌}
use Prim.Native.Nat.{◌+◌, ◌-◌}
use native.Mathlib.Omega.{arith}
use Rattle.searched_walk.proofs.Popping.{empty_begin, empty_stop, empty_done, empty_ask, empty_again}
use Rattle.searched_walk.proofs.empty_stack.Goals as goal

-- src/lib.rt:176:5
pub loop-turn-init : goal.loop-turn-init
loop-turn-init c = let e : c.args.n - 0 ≡ c.args.n = omega arith in rw e (empty_begin c.args.n c.requires.ready)

-- src/lib.rt:178:13
pub shape_of-words-then-now-eq0 : goal.shape_of-words-then-now-eq0
shape_of-words-then-now-eq0 c = c.loop-turn.invariant.kept.long

-- src/lib.rt:178:13
pub returns-then-now-eq0 : goal.returns-then-now-eq0
returns-then-now-eq0 c = empty_stop c.loop-turn.invariant c.if-now-eq0.true

-- src/lib.rt:180:9
pub pop-now-requires : goal.pop-now-requires
pop-now-requires c = record { pop_asks = empty_ask c.loop-turn.invariant c.if-now-eq0.false; indexed = c.requires.indexed }

-- src/lib.rt:176:5
pub loop-turn-preserved : goal.loop-turn-preserved
loop-turn-preserved c =
    let e : c.args.n - (c.loop-turn._turn + 1) ≡ c.args.n - c.loop-turn._turn - 1 = omega arith in
    rw e (empty_again c.loop-turn.invariant (omega (arith, c.loop-turn-test.true)) c.pop-now.ensures)

-- src/lib.rt:170:1
pub shape_of-words : goal.shape_of-words
shape_of-words c = c.loop-turn.invariant.kept.long

-- src/lib.rt:170:1
pub returns : goal.returns
returns c = empty_done c.loop-turn.invariant (omega (arith, c.loop-turn-test.false))
