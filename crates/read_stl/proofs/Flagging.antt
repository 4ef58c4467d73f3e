-- The corners passed have their flags. Assumes nothing.
use mathlib.Core.Path.{◌≡◌, refl, ap, ◌∙◌}
use mathlib.Core.Bool.{cond}
use mathlib.Core.List.{List}
use Prim.Native.Nat.{ℕ, ◌+◌, ◌*◌, ◌^◌, ◌≤◌, ◌<◌}
use native.Mathlib.Omega.{arith}
use borrow.Author.Tests.{eq-eqb, ne_eqb}
use lib.Dec.{eqb}
use lib.ListN.{length, get_or, set}
use Rattle.rows.specs.Region.{Apart.before, Only, Holds}
use Rattle.rows.proofs.Regions.{only_none, only_more, only_next, holds_none, holds_next, kept_at}
use Rattle.read_stl.specs.Rows.{FlagsAsks, FlagsGives}

-- the corner itself
pub is_own : (j c : ℕ) → j ≡ c → ◌≡◌ {A = ℕ} 0 (cond (eqb j c) 0 1)
is_own j c e = rw (eq-eqb j c e) refl

-- another one
pub is_other : (j c : ℕ) → (j ≡ c → ⊥) → ◌≡◌ {A = ℕ} 1 (cond (eqb j c) 0 1)
is_other j c e = rw (ne_eqb j c e) refl

-- the flags before c
pub record Flagging (n : ℕ) (w₀ w : List ℕ) (c : ℕ) : Type 0 where
  pub at_most : c ≤ n
  pub only : Only (5 * n) c w₀ w
  pub flags : Holds (5 * n) c (λ j. cond (eqb (get_or w₀ (4 * n + j) 0) j) 0 1) w

-- what a turn may use
pub record Turn (n : ℕ) (w : List ℕ) (c : ℕ) : Type 0 where
  pub here : c < n
  pub few : n < 2 ^ 32
  pub room : 6 * n ≤ length w
  pub inside : get_or w (4 * n + c) 0 < n

-- before the first corner
pub begin : {n : ℕ} {w : List ℕ} → FlagsAsks w n → Flagging n w w 0
begin p = record { at_most = omega arith; only = only_none _ _ _; flags = holds_none }

module _ {n : ℕ} {w₀ w : List ℕ} {c : ℕ} (p : FlagsAsks w₀ n) (v : Flagging n w₀ w c) where
  -- the first corners are as they were
  first_kept : (j : ℕ) → j < n → get_or w (4 * n + j) 0 ≡ get_or w₀ (4 * n + j) 0
  first_kept j h = kept_at (only_more {b = 5 * n} {m = n} (omega arith) (omega (arith, v.at_most)) v.only) {b = 4 * n} {m = n} (before (omega arith)) j h

  -- the bounds of a turn
  pub turn : c < n → Turn n w c
  turn h = let l = v.only.long in record { here = h; few = p.few; room = omega (arith, p.fit); inside = rw (first_kept c h) (p.inside c h) }

  -- one flag more
  pub again : {f : ℕ} → c < n → f ≡ cond (eqb (get_or w (4 * n + c) 0) c) 0 1 → Flagging n w₀ (set w (5 * n + c) f) (c + 1)
  again {f} h e =
      let t = turn h in
      record {
        at_most = omega arith;
        only = only_next f v.only;
        flags = holds_next f (omega (arith, t)) (e ∙ ap (λ k. cond (eqb k c) 0 1) (first_kept c h)) v.flags;
      }

  -- after n turns
  pub done : n ≤ c → FlagsGives w₀ n w
  done h = let e : c ≡ n = omega (arith, v.at_most) in record { only = rw e at v.only; flags = rw e at v.flags }
