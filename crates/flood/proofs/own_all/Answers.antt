-- `flood::own_all` meets its contract. Assumes nothing.
use mathlib.Core.Path.{◌≡◌, refl}
use mathlib.Core.List.{List}
use Prim.Native.Nat.{ℕ, ◌+◌, ◌^◌, ◌≤◌, ◌<◌}
use native.Mathlib.Omega.{arith}
use lib.ListN.{length, set}
use Rattle.rows.proofs.Regions.{only_none, only_next, holds_none, holds_next}
use Rattle.flood.specs.Parents.{OwnAsks, OwnGives}
use Rattle.flood.proofs.own_all.Invariants.{Inv}
use Rattle.flood.proofs.own_all.Goals as goal

begin : {w : List ℕ} {labels n : ℕ} → OwnAsks w labels n → Inv w labels n w 0
begin q = record { at_most = omega arith; only = only_none _ _ _; own = holds_none }

-- the bounds of a turn
record Turn (labels n : ℕ) (w : List ℕ) (i : ℕ) : Type 0 where
  is_thing : i < n
  few : n ≤ 2 ^ 32
  fit : labels + n ≤ length w

module _ {w₀ : List ℕ} {labels n : ℕ} {w : List ℕ} {i : ℕ} (q : OwnAsks w₀ labels n) (v : Inv w₀ labels n w i) where
  module _ (h : i < n) where
    turn : Turn labels n w i
    turn = let l = v.only.long in record { is_thing = h; few = q.few; fit = omega (arith, q.fit) }

    again : Inv w₀ labels n (set w (labels + i) i) (i + 1)
    again = record { at_most = omega arith; only = only_next i v.only; own = holds_next i (omega (arith, turn)) refl v.own }

  done : n ≤ i → OwnGives w₀ labels n w
  done l = let e : i ≡ n = omega (arith, v.at_most) in record { only = rw e at v.only; own = rw e at v.own }

pub loop-i-init : goal.loop-i-init
loop-i-init c = begin c.requires

pub overflow_cast-work : goal.overflow_cast-work
overflow_cast-work c = omega (arith, turn c.requires c.loop-i.invariant c.loop-i-test.true)

pub overflow_add-work : goal.overflow_add-work
overflow_add-work c = omega (arith, turn c.requires c.loop-i.invariant c.loop-i-test.true)

pub offset_bounds-work-labels : goal.offset_bounds-work-labels
offset_bounds-work-labels c = omega (arith, turn c.requires c.loop-i.invariant c.loop-i-test.true)

pub bounds-work-labels : goal.bounds-work-labels
bounds-work-labels c = omega (arith, turn c.requires c.loop-i.invariant c.loop-i-test.true)

pub loop-i-preserved : goal.loop-i-preserved
loop-i-preserved c = again c.requires c.loop-i.invariant c.loop-i-test.true

pub shape_of-work : goal.shape_of-work
shape_of-work c = c.loop-i.invariant.only.long

pub returns : goal.returns
returns c = done c.requires c.loop-i.invariant c.loop-i-test.false
