-- `searched_fans::reach` meets its contract: face after face is gone through, until none waits. The measure is how many were not. Assumes nothing.
use native.Mathlib.Omega.{arith}
use mathlib.Core.Path.{refl, sym, ◌∙◌, subst}
use Prim.Native.Nat.{◌+◌}
use lib.ListN.{get_or, length-set}
use Rattle.std.proofs.lemmas.Option.{MatchOption-at_none, MatchOption-at_some}
use Rattle.searched_fans.proofs.Spreading.{Spread, begin, first_waits, next_given, asks, again, fewer}
use Rattle.searched_fans.proofs.Reached.{settle_asks, done}
use Rattle.searched_fans.proofs.reach.Goals as goal

-- src/lib.rt:151:16
pub offset_bounds-words-f : goal.offset_bounds-words-f
offset_bounds-words-f c = omega (arith, c.requires.reach_asks.here, c.requires.reach_asks.worded.few)

-- src/lib.rt:151:16
pub bounds-words-f : goal.bounds-words-f
bounds-words-f c = c.requires.reach_asks.here

-- src/lib.rt:151:16
pub overflow_add-words : goal.overflow_add-words
overflow_add-words c = let p = c.requires.reach_asks in omega (arith, p.few c.args.f p.here)

-- src/lib.rt:151:5
pub offset_bounds-words-f-2 : goal.offset_bounds-words-f-2
offset_bounds-words-f-2 c = omega (arith, c.requires.reach_asks.here, c.requires.reach_asks.worded.few)

-- src/lib.rt:151:5
pub bounds-words-f-2 : goal.bounds-words-f-2
bounds-words-f-2 c = c.requires.reach_asks.here

-- nothing but face f waits at first
pub loop-waiting-init : goal.loop-waiting-init
loop-waiting-init c = let p = c.requires.reach_asks in
    record {
      spread = λ base q e. subst (λ w. Spread q w) (sym e) (begin q);
      next = (omega (arith, p.here, length-set c.args.words.now c.args.f (get_or c.args.words.now c.args.f 0 + 4)), first_waits p);
    }

pub go_through-requires : goal.go_through-requires
go_through-requires c = let p = c.requires.reach_asks in
    let n = MatchOption-at_some _ _ _ c.in-Some.is c.loop-waiting.invariant.next in
    record { through_asks = asks p (c.loop-waiting.invariant.spread _ p refl) n.0 n.1; indexed = c.requires.indexed }

pub loop-waiting-smaller : goal.loop-waiting-smaller
loop-waiting-smaller c = let p = c.requires.reach_asks in
    let n = MatchOption-at_some _ _ _ c.in-Some.is c.loop-waiting.invariant.next in
    fewer p (c.loop-waiting.invariant.spread _ p refl) n.0 n.1 c.go_through.ensures

pub loop-waiting-preserved : goal.loop-waiting-preserved
loop-waiting-preserved c =
    let n = MatchOption-at_some _ _ _ c.in-Some.is c.loop-waiting.invariant.next in
    record {
      spread = λ base q e. again q (c.loop-waiting.invariant.spread base q e) n.0 n.1 c.go_through.ensures;
      next = next_given _ _ c.next_waiting-waiting.ensures;
    }

pub settle-requires : goal.settle-requires
settle-requires c = let p = c.requires.reach_asks in
    settle_asks p (c.loop-waiting.invariant.spread _ p refl) (MatchOption-at_none _ _ c.in_default.is c.loop-waiting.invariant.next)

pub shape_of-words : goal.shape_of-words
shape_of-words c = let p = c.requires.reach_asks in
    c.settle.ensures.long ∙ (c.loop-waiting.invariant.spread _ p refl).long

pub returns : goal.returns
returns c = λ q. done q (c.loop-waiting.invariant.spread _ q refl) (MatchOption-at_none _ _ c.in_default.is c.loop-waiting.invariant.next) c.settle.ensures
