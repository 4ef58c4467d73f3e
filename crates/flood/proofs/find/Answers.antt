-- `flood::find` meets its contract: every root stays, and y has the root of x. The measure is y. Assumes nothing.
use mathlib.Core.Path.{◌≡◌, refl, sym, ap, ◌∙◌}
use mathlib.Core.List.{List}
use Prim.Native.Nat.{ℕ, ◌+◌, ◌^◌, ◌≤◌, ◌<◌}
use native.Mathlib.Omega.{arith}
use lib.ListN.{length, set}
use Rattle.rows.proofs.Regions.{only_none, only_both}
use Rattle.flood.specs.Parents.{parent, Forest, FindAsks, FindGives}
use Rattle.flood.proofs.Forests.{put_only, put_forest}
use Rattle.flood.proofs.find.Invariants.{Inv}
use Rattle.flood.proofs.find.Goals as goal

-- at first y is x
begin : {w : List ℕ} {labels x : ℕ} (q : FindAsks w labels x) → Inv q w x (parent w labels x)
begin q = record { only = only_none _ _ _; forest = q.forest; low = omega arith; here = refl; same = refl }

-- the bounds of a thing y with the parent p
record Step (labels n : ℕ) (w : List ℕ) (y p : ℕ) : Type 0 where
  is_thing : y < n
  lower : p ≤ y
  few : n ≤ 2 ^ 32
  fit : labels + n ≤ length w

-- those of x at entry
start : {w : List ℕ} {labels x : ℕ} (q : FindAsks w labels x) → Step labels q.n w x (parent w labels x)
start {w} {labels} {x} q = record { is_thing = q.is_thing; lower = q.forest.down x q.is_thing; few = q.forest.few; fit = q.forest.fit }

-- the bounds of a turn
record Turn (labels n : ℕ) (w : List ℕ) (y p next last : ℕ) : Type 0 where
  step : Step labels n w y p
  lower : p < y
  lower_2 : next ≤ p
  lower_3 : last ≤ next

module _ {w₀ : List ℕ} {labels x : ℕ} {w : List ℕ} {y p : ℕ} (q : FindAsks w₀ labels x) (u : (q : FindAsks w₀ labels x) → Inv q w y p) where
  abbrev v : Inv q w y p
  v = u q

  -- y is a thing, its parent is earlier, and the parent of that no later
  is : y < q.n
  is = omega (arith, q.is_thing, v.low)

  module _ (h : p ≡ y → ⊥) where
    lower : p < y
    lower = omega (arith, v.here, v.forest.down y is)

    lower_2 : parent w labels p ≤ p
    lower_2 = v.forest.down p (let l = lower in omega (arith, is))

    -- the parent of the parent has the same root
    two : q.root (parent w labels p) ≡ q.root y
    two = v.forest.along p (let l = lower in omega (arith, is)) ∙ ap q.root v.here ∙ v.forest.along y is

    -- so every root stays when y gets it as its parent
    after : Forest labels q.n q.root (set w (labels + y) (parent w labels p))
    after = put_forest v.forest y (parent w labels p) is two (let a = lower in let b = lower_2 in omega arith)

    turn : Turn labels q.n w y p (parent w labels p) (parent (set w (labels + y) (parent w labels p)) labels (parent w labels p))
    turn =
        let a = lower in
        let b = lower_2 in
        record {
          step = record { is_thing = is; lower = omega arith; few = v.forest.few; fit = v.forest.fit };
          lower = a;
          lower_2 = b;
          lower_3 = after.down (parent w labels p) (omega (arith, is));
        }

    -- and y moves on to it
    again : Inv q (set w (labels + y) (parent w labels p)) (parent w labels p) (parent (set w (labels + y) (parent w labels p)) labels (parent w labels p))
    again =
        let a = lower in
        let b = lower_2 in
        record {
          only = only_both v.only (put_only v.forest y (parent w labels p) is);
          forest = after;
          low = omega (arith, v.low);
          here = refl;
          same = two ∙ v.same;
        }

  -- a thing that is its own parent is its own root
  done : p ≡ y → FindGives q w y
  done e = record { only = v.only; forest = v.forest; is_root = sym (v.forest.fixed y is (sym v.here ∙ e)) ∙ v.same }

pub offset_bounds-work-labels : goal.offset_bounds-work-labels
offset_bounds-work-labels c = omega (arith, start c.requires)

pub bounds-work-labels : goal.bounds-work-labels
bounds-work-labels c = omega (arith, start c.requires)

pub loop-parent-init : goal.loop-parent-init
loop-parent-init c = begin

pub overflow_add-work : goal.overflow_add-work
overflow_add-work c = omega (arith, turn c.requires c.loop-parent.invariant c.loop-parent-test.true)

pub loop-parent-smaller : goal.loop-parent-smaller
loop-parent-smaller c = omega (arith, turn c.requires c.loop-parent.invariant c.loop-parent-test.true)

pub loop-parent-preserved : goal.loop-parent-preserved
loop-parent-preserved c = λ q. again q c.loop-parent.invariant c.loop-parent-test.true

pub shape_of-work : goal.shape_of-work
shape_of-work c = (c.loop-parent.invariant c.requires).only.long

pub returns : goal.returns
returns c = λ q. done q c.loop-parent.invariant c.loop-parent-test.false
