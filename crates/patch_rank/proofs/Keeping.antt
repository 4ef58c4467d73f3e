-- The flags of the patches that rank first: all, none, or by the cut. Assumes nothing.
use mathlib.Core.Path.{◌≡◌, sym, ap, ◌∙◌}
use mathlib.Core.Bool.{Bool, true, false, cond}
use mathlib.Core.Logic.{◌⊎◌, inl, inr}
use mathlib.Core.List.{List}
use Prim.Native.Nat.{ℕ, zero, suc, ◌*◌, ◌≤◌, ◌<◌}
use native.Mathlib.Nat.{zero-add, not-suc-le-zero, le_of_suc-le-suc, eq-or-lt_of_le}
use native.Mathlib.Omega.{arith}
use borrow.Author.Tests.{le-leb, lt-leb, le-ltb}
use lib.Dec.{leb}
use lib.Ieee.{Float, binary64, to_bits}
use Rattle.rows.specs.Region.{Only, Filled}
use Rattle.rows.proofs.Regions.{only_none}
use Rattle.rules.specs.Lists.{below, count}
use Rattle.rules.specs.Rank.{outranks}
use Rattle.rule_laws.proofs.Lists.{count_below}
use Rattle.rule_laws.proofs.Counting.{count_below_le, count_below_agree}
use Rattle.patch_rank.specs.Rank.{area_at, key_at, before, rank, LayGives, CutAsks, MarkGives, RankAsks, RankGives}
use Rattle.patch_rank.proofs.Bits.{lt_bits}

-- ---- ranks by area are ranks by key

-- what does not count itself counts fewer than there are
fewer : (p : ℕ → Bool) (k m : ℕ) → p k ≡ false → k < m → count p (below m) < m
fewer p k zero e h = absurd (not-suc-le-zero h)
fewer p k (suc m) e h = go (fewer p k m e) (eq-or-lt_of_le (le_of_suc-le-suc h))
  where
    one : (b : Bool) → cond b 1 0 ≤ 1
    one true = omega arith
    one false = omega arith

    go : (k < m → count p (below m) < m) → (k ≡ m) ⊎ (k < m) → count p (below (suc m)) < suc m
    go r (inl q) = omega (arith, rw (ap p (sym q) ∙ e) at (count_below p m), count_below_le p m)
    go r (inr l) = omega (arith, count_below p m, r l, one (p m))

module _ {xs : List Float} {C : ℕ} {fs w : List ℕ} (p : RankAsks xs C fs w) where
  -- none ranks before itself
  self : (k : ℕ) → k < C → outranks (area_at xs) k k ≡ false
  unfolding outranks
  self k h = rw (lt_bits (area_at xs k) (area_at xs k) (p.areas k h) (p.areas k h), le-ltb (to_bits binary64 (area_at xs k)) (to_bits binary64 (area_at xs k)) (omega arith), le-ltb k k (omega arith))

  -- as many rank before k by area as by key
  rank_is : {w' : List ℕ} → LayGives xs C w w' → (k : ℕ) → k < C → count (λ j. outranks (area_at xs) j k) (below C) ≡ rank (key_at w') C k
  unfolding outranks
  rank_is {w'} g k h =
      count_below_agree (λ j. outranks (area_at xs) j k) (λ j. before (key_at w') j k) C
      (λ j l.
      rw (
        g.keys j l,
        g.keys k h,
        ← lt_bits (area_at xs k) (area_at xs j) (p.areas k h) (p.areas j l),
        ← lt_bits (area_at xs j) (area_at xs k) (p.areas j l) (p.areas k h),
      ))

  -- ---- the three cases

  -- n is C or more: every patch ranks among the first n
  pub all_kept : {n : ℕ} {fs' : List ℕ} → C ≤ n → Only 0 C fs fs' → Filled 0 C 1 fs' → RankGives xs C n fs w fs' w
  all_kept {n} {fs'} h o z =
      record {
        only_flags = o;
        only_work = only_none 0 (2 * C) w;
        flagged = λ k l.
            let f = fewer (λ j. outranks (area_at xs) j k) k C (self k l) l in
            rw (zero-add k) at (z.each k l) ∙ rw (lt-leb n (count (λ j. outranks (area_at xs) j k) (below C)) (omega arith));
      }

  -- n is 0: none does
  pub none_kept : {n : ℕ} {fs' : List ℕ} → n ≡ 0 → Only 0 C fs fs' → Filled 0 C 0 fs' → RankGives xs C n fs w fs' w
  none_kept {n} {fs'} e o z =
      record {
        only_flags = o;
        only_work = only_none 0 (2 * C) w;
        flagged = λ k l. rw (zero-add k) at (z.each k l) ∙ rw (le-leb n (count (λ j. outranks (area_at xs) j k) (below C)) (omega arith));
      }

  module _ {n : ℕ} (h : n < C) {w' : List ℕ} (g : LayGives xs C w w') where
    -- there is a cut
    pub cut_asks : (n ≡ 0 → ⊥) → CutAsks w' C n
    cut_asks z =
        record {
          fit = omega (arith, p.fit, g.only.long);
          least = omega arith;
          most = omega arith;
          small = λ k l. rw (g.keys k l) (p.areas k l).small;
        }

    -- the flags by the cut
    pub some_kept : {fs' : List ℕ} → MarkGives w' C n fs fs' → RankGives xs C n fs w fs' w'
    some_kept {fs'} m =
        record {
          only_flags = m.only;
          only_work = g.only;
          flagged = λ k l. m.flagged k l ∙ ap (λ r. cond (leb n r) 0 1) (sym (rank_is g k l));
        }
