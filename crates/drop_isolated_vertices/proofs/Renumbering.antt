-- The corners passed have their numbers, and the others are as they were: as a fact of lists. Assumes nothing.
use mathlib.Core.Path.{◌≡◌, ap}
use mathlib.Core.List.{List}
use Prim.Native.Nat.{ℕ, ◌+◌, ◌*◌, ◌≤◌, ◌<◌}
use native.Mathlib.Nat.{zero-add}
use native.Mathlib.Omega.{arith}
use lib.ListN.{length, get_or, set}
use Rattle.rows.specs.Region.{Out.above, Only, Holds}
use Rattle.rows.proofs.Regions.{only_none, only_next, holds_none, holds_next}
use Rattle.drop_isolated_vertices.specs.Unused.{RenumberAsks, RenumberGives}

-- the loop's invariant
pub record Renumbered (xs₀ : List ℕ) (n : ℕ) (w : List ℕ) (a : ℕ) (xs : List ℕ) (i : ℕ) : Type 0 where
  pub at_most : i ≤ 3 * n
  pub only : Only 0 i xs₀ xs
  pub numbers : Holds 0 i (λ j. get_or w (a + get_or xs₀ j 0) 0) xs

-- what a turn may use
pub record Turn (n : ℕ) (w : List ℕ) (a : ℕ) (xs : List ℕ) (i : ℕ) : Type 0 where
  pub here : i < 3 * n
  pub fit : 3 * n ≤ length xs
  pub number : a + get_or xs i 0 < length w

-- before the first turn no corner is changed
pub begin : {xs : List ℕ} {n : ℕ} {w : List ℕ} {a : ℕ} → RenumberAsks xs n w a → Renumbered xs n w a xs 0
begin p = record { at_most = omega arith; only = only_none _ _ _; numbers = holds_none }

module _ {xs₀ : List ℕ} {n : ℕ} {w : List ℕ} {a : ℕ} {xs : List ℕ} {i : ℕ} (p : RenumberAsks xs₀ n w a) (v : Renumbered xs₀ n w a xs i) where
  -- a corner that is not passed is as it was
  corner : get_or xs i 0 ≡ get_or xs₀ i 0
  corner = v.only.same i (above (omega arith))

  -- the bounds of a turn
  pub turn : i < 3 * n → Turn n w a xs i
  turn h = let l = v.only.long in record { here = h; fit = omega (arith, p.fit); number = omega (arith, corner, p.inside i h) }

  -- a turn renumbers one corner more
  pub again : i < 3 * n → Renumbered xs₀ n w a (set xs i (get_or w (a + get_or xs i 0) 0)) (i + 1)
  again h =
      let t = turn h in
      record {
        at_most = omega arith;
        only = rw zero-add at (only_next {a = 0} (get_or w (a + get_or xs i 0) 0) v.only);
        numbers = rw zero-add at (holds_next {a = 0} (get_or w (a + get_or xs i 0) 0) (omega (arith, t)) (ap (λ k. get_or w (a + k) 0) corner) v.numbers);
      }

  -- after all corners the contract holds
  pub done : 3 * n ≤ i → RenumberGives xs₀ n w a xs
  done h =
      let e : i ≡ 3 * n = omega (arith, v.at_most) in
      record { only = rw e at v.only; numbers = rw e at v.numbers }
