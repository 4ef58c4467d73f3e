-- The corners passed have the number of the first one that is equal. Assumes nothing.
use mathlib.Core.Path.{◌≡◌, refl}
use mathlib.Core.List.{List}
use Prim.Native.Nat.{ℕ, ◌+◌, ◌*◌, ◌^◌, ◌≤◌, ◌<◌}
use native.Mathlib.Nat.{zero-add}
use native.Mathlib.Omega.{arith}
use lib.ListN.{length, get_or, set}
use Rattle.rows.specs.Region.{Only, Holds}
use Rattle.rows.proofs.Regions.{only_none, only_next, holds_none, holds_next}
use Rattle.read_stl.specs.Rows.{TriplesAsks, TriplesGives}

-- the numbers of the corners before c
pub record Numbering (w : List ℕ) (n : ℕ) (fs₀ fs : List ℕ) (c : ℕ) : Type 0 where
  pub at_most : c ≤ n
  pub only : Only 0 c fs₀ fs
  pub numbers : Holds 0 c (λ j. get_or w (6 * n + get_or w (4 * n + j) 0) 0) fs

-- what a turn may use
pub record Turn (w : List ℕ) (n : ℕ) (fs : List ℕ) (c : ℕ) : Type 0 where
  pub here : c < n
  pub few : n < 2 ^ 32
  pub fit : 7 * n ≤ length w
  pub room : n ≤ length fs
  pub inside : get_or w (4 * n + c) 0 < n

-- before the first corner
pub begin : {w : List ℕ} {n : ℕ} {fs : List ℕ} → TriplesAsks w n fs → Numbering w n fs fs 0
begin p = record { at_most = omega arith; only = only_none _ _ _; numbers = holds_none }

module _ {w : List ℕ} {n : ℕ} {fs₀ fs : List ℕ} {c : ℕ} (p : TriplesAsks w n fs₀) (v : Numbering w n fs₀ fs c) where
  -- the bounds of a turn
  pub turn : c < n → Turn w n fs c
  turn h = let l = v.only.long in record { here = h; few = p.few; fit = p.fit; room = omega (arith, p.room); inside = p.inside c h }

  -- one number more
  pub again : c < n → Numbering w n fs₀ (set fs c (get_or w (6 * n + get_or w (4 * n + c) 0) 0)) (c + 1)
  again h =
      let t = turn h in
      record {
        at_most = omega arith;
        only = rw zero-add at (only_next {a = 0} (get_or w (6 * n + get_or w (4 * n + c) 0) 0) v.only);
        numbers = rw zero-add at (holds_next {a = 0} (get_or w (6 * n + get_or w (4 * n + c) 0) 0) (omega (arith, t)) refl v.numbers);
      }

  -- after n turns
  pub done : n ≤ c → TriplesGives w n fs₀ fs
  done h = let e : c ≡ n = omega (arith, v.at_most) in record { only = rw e at v.only; numbers = rw e at v.numbers }
