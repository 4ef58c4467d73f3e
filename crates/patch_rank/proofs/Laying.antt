-- The loop that writes the keys. Assumes nothing.
use mathlib.Core.Path.{◌≡◌, ◌∙◌}
use mathlib.Core.Bool.{not}
use mathlib.Core.List.{List}
use Prim.Native.Nat.{ℕ, ◌+◌, ◌*◌, ◌/◌, ◌%◌, ◌≤◌, ◌<◌, ◌^◌}
use native.Mathlib.Omega.{arith}
use native.Mathlib.Decide.{dec_lt}
use lib.Dec.{T}
use lib.ListN.{length, get_or, set, length-set}
use lib.Seq.{get_or-set_same, get_or-set_other}
use lib.Ieee.{Float, nan, inf, fin, binary64, to_bits, is_nan}
use Rattle.root.specs.Nearest.{plain}
use Rattle.rows.specs.Region.{Only}
use Rattle.rows.proofs.Regions.{only_none, only_both, only_set}
use Rattle.patch_rank.specs.Rank.{area_at, key_at, LayAsks, LayGives}

-- the first k keys are there
pub record Laid (xs : List Float) (C : ℕ) (w₀ w : List ℕ) (k : ℕ) : Type 0 where
  pub at_most : k ≤ C
  pub only : Only 0 (2 * C) w₀ w
  pub keys : (j : ℕ) → j < k → key_at w j ≡ to_bits binary64 (area_at xs j)

-- what a turn reads and writes
pub record Turn (xs : List Float) (w : List ℕ) (k : ℕ) : Type 0 where
  pub small : k < 2 ^ 32
  pub from_fit : 7 * k < length xs
  pub fit : 2 * k + 1 < length w
  pub bits : to_bits binary64 (area_at xs k) < 2 ^ 63

-- what is finite is a number
plain_number : (x : Float) → T (plain x) → T (not (is_nan x))
unfolding is_nan
plain_number nan p = absurd p
plain_number (inf s) p = absurd p
plain_number (fin s m e) p = tt

-- a key in two entries
module _ (w : List ℕ) (k b : ℕ) where
  -- the row with it
  abbrev laid : List ℕ
  laid = set (set w (2 * k) (b / 4294967296)) (2 * k + 1) (b % 4294967296)

  -- it is read back
  laid_same : 2 * k + 1 < length w → key_at laid k ≡ b
  laid_same h =
      let e : get_or laid (2 * k) 0 ≡ b / 4294967296 =
      get_or-set_other (set w (2 * k) (b / 4294967296)) (2 * k + 1) (2 * k) (b % 4294967296) 0 (omega arith)
      ∙ get_or-set_same w (2 * k) (b / 4294967296) 0 (omega arith) in
      let f : get_or laid (2 * k + 1) 0 ≡ b % 4294967296 =
      get_or-set_same (set w (2 * k) (b / 4294967296)) (2 * k + 1) (b % 4294967296) 0 (simp length-set h) in
      rw (e, f) (omega arith)

  -- the others stay
  laid_other : (j : ℕ) → (j ≡ k → ⊥) → key_at laid j ≡ key_at w j
  laid_other j n =
      let e : get_or laid (2 * j) 0 ≡ get_or w (2 * j) 0 =
      get_or-set_other (set w (2 * k) (b / 4294967296)) (2 * k + 1) (2 * j) (b % 4294967296) 0 (omega arith)
      ∙ get_or-set_other w (2 * k) (2 * j) (b / 4294967296) 0 (omega arith) in
      let f : get_or laid (2 * j + 1) 0 ≡ get_or w (2 * j + 1) 0 =
      get_or-set_other (set w (2 * k) (b / 4294967296)) (2 * k + 1) (2 * j + 1) (b % 4294967296) 0 (omega arith)
      ∙ get_or-set_other w (2 * k) (2 * j + 1) (b / 4294967296) 0 (omega arith) in
      rw (e, f)

module _ {xs : List Float} {C : ℕ} {w₀ : List ℕ} (p : LayAsks xs C w₀) where
  -- none yet
  pub begin : Laid xs C w₀ w₀ 0
  begin = record { at_most = omega arith; only = only_none 0 (2 * C) w₀; keys = λ j h. absurd (omega arith) }

  module _ {w : List ℕ} {k : ℕ} (v : Laid xs C w₀ w k) where
    -- the next one is in bounds
    pub turn : k < C → Turn xs w k
    turn h =
        record {
          small = omega (arith, p.few);
          from_fit = omega (arith, p.from_fit);
          fit = omega (arith, p.fit, v.only.long);
          bits = (p.areas k h).small;
        }

    -- and is a number
    pub number : k < C → T (not (is_nan (area_at xs k)))
    number h = plain_number (area_at xs k) (p.areas k h).is_plain

    -- one more
    pub again : k < C → Laid xs C w₀ (laid w k (to_bits binary64 (area_at xs k))) (k + 1)
    again h =
        record {
          at_most = omega arith;
          only = only_both v.only (only_both (only_set w (2 * k) _ (omega arith) (omega arith)) (only_set _ (2 * k + 1) _ (omega arith) (omega arith)));
          keys = λ j l. go j l (dec_lt j k);
        }
      where
        go : (j : ℕ) → j < k + 1 → Dec (j < k) → key_at (laid w k (to_bits binary64 (area_at xs k))) j ≡ to_bits binary64 (area_at xs j)
        go j l (yes b) = laid_other w k (to_bits binary64 (area_at xs k)) j (omega arith) ∙ v.keys j b
        go j l (no b) = let e : j ≡ k = omega arith in rw e (laid_same w k (to_bits binary64 (area_at xs k)) (turn h).fit)

    -- all of them
    pub done : C ≤ k → LayGives xs C w₀ w
    done h = record { only = v.only; keys = λ j l. v.keys j (omega arith) }
