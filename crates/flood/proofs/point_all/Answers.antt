-- `flood::point_all` meets its contract: the parent of a thing comes no later, so its root stands there already. Assumes nothing.
use mathlib.Core.Path.{◌≡◌, sym, ap, ◌∙◌}
use mathlib.Core.List.{List}
use Prim.Native.Nat.{ℕ, ◌+◌, ◌^◌, ◌≤◌, ◌<◌}
use native.Mathlib.Omega.{arith}
use native.Mathlib.Decide.{ℕ_discrete}
use lib.ListN.{length, set}
use Rattle.rows.specs.Region.{Out.above}
use Rattle.rows.proofs.Regions.{only_none, only_next, holds_none, holds_next}
use Rattle.flood.specs.Parents.{parent, PointAsks, PointGives}
use Rattle.flood.proofs.point_all.Invariants.{Inv}
use Rattle.flood.proofs.point_all.Goals as goal

begin : {w : List ℕ} {labels n : ℕ} (q : PointAsks w labels n) → Inv q w 0
begin q = record { at_most = omega arith; only = only_none _ _ _; roots = holds_none }

-- the bounds of a turn
record Turn (labels n : ℕ) (w : List ℕ) (i p : ℕ) : Type 0 where
  is_thing : i < n
  lower : p ≤ i
  few : n ≤ 2 ^ 32
  fit : labels + n ≤ length w

module _ {w₀ : List ℕ} {labels n : ℕ} {w : List ℕ} {i : ℕ} (q : PointAsks w₀ labels n) (u : (q : PointAsks w₀ labels n) → Inv q w i) where
  abbrev v : Inv q w i
  v = u q

  module _ (h : i < n) where
    -- the parent of i is as it was
    unread : parent w labels i ≡ parent w₀ labels i
    unread = v.only.same (labels + i) (above (omega arith))

    turn : Turn labels n w i (parent w labels i)
    turn =
        let l = v.only.long in
        record { is_thing = h; lower = omega (arith, unread, q.forest.down i h); few = q.forest.few; fit = omega (arith, q.forest.fit) }

    -- what stands at the parent is the root: i itself, or what an earlier turn wrote
    stands : Dec (parent w labels i ≡ i) → parent w labels (parent w labels i) ≡ q.root i
    stands (yes e) = ap (parent w labels) e ∙ e ∙ sym (q.forest.fixed i h (sym unread ∙ e))
    stands (no e) = v.roots.each (parent w labels i) (omega (arith, turn)) ∙ ap q.root unread ∙ q.forest.along i h

    again : Inv q (set w (labels + i) (parent w labels (parent w labels i))) (i + 1)
    again =
        record {
          at_most = omega arith;
          only = only_next (parent w labels (parent w labels i)) v.only;
          roots = holds_next (parent w labels (parent w labels i)) (omega (arith, turn)) (stands (ℕ_discrete (parent w labels i) i)) v.roots;
        }

  done : n ≤ i → PointGives q w
  done l = let e : i ≡ n = omega (arith, v.at_most) in record { only = rw e at v.only; roots = rw e at v.roots }

pub loop-i-init : goal.loop-i-init
loop-i-init c = begin

pub offset_bounds-work-labels : goal.offset_bounds-work-labels
offset_bounds-work-labels c = omega (arith, turn c.requires c.loop-i.invariant c.loop-i-test.true)

pub bounds-work-labels : goal.bounds-work-labels
bounds-work-labels c = omega (arith, turn c.requires c.loop-i.invariant c.loop-i-test.true)

pub overflow_add-work : goal.overflow_add-work
overflow_add-work c = omega (arith, turn c.requires c.loop-i.invariant c.loop-i-test.true)

pub bounds-work-labels-in-loop-i : goal.bounds-work-labels-in-loop-i
bounds-work-labels-in-loop-i c = omega (arith, turn c.requires c.loop-i.invariant c.loop-i-test.true)

pub loop-i-preserved : goal.loop-i-preserved
loop-i-preserved c = λ q. again q c.loop-i.invariant c.loop-i-test.true

pub shape_of-work : goal.shape_of-work
shape_of-work c = (c.loop-i.invariant c.requires).only.long

pub returns : goal.returns
returns c = λ q. done q c.loop-i.invariant c.loop-i-test.false
