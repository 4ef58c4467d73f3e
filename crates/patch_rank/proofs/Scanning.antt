-- The loops over the keys: how many reach a number, the halving for the cut, and the flags. Assumes nothing.
use mathlib.Core.Path.{◌≡◌, refl, sym, ◌∙◌}
use mathlib.Core.Bool.{true, false, cond}
use mathlib.Core.List.{List}
use Prim.Native.Nat.{ℕ, ◌+◌, ◌-◌, ◌/◌, ◌≤◌, ◌<◌, ◌^◌}
use native.Mathlib.Nat.{zero-add}
use native.Mathlib.Numerals.{add-one}
use native.Mathlib.Omega.{arith}
use native.Mathlib.Decide.{dec_lt}
use borrow.Author.Tests.{le-leb, lt-leb, eq-eqb, ne_eqb}
use lib.Dec.{leb, eqb}
use lib.ListN.{length, get_or, set}
use lib.Seq.{get_or-set_same, get_or-set_other}
use Rattle.rows.specs.Region.{Only}
use Rattle.rows.proofs.Regions.{only_none, only_next}
use Rattle.rules.specs.Lists.{below, filter, count}
use Rattle.rule_laws.proofs.Lists.{count_below, length_below}
use Rattle.rule_laws.proofs.Counting.{count_below_le, count_all, count_below_agree}
use Rattle.patch_rank.specs.Rank.{key_at, reach, rank, flag_of, Cut, CutAsks, MarkAsks, MarkGives}
use Rattle.patch_rank.proofs.Ranking.{flag_is}

-- ---- how many keys are t or more

-- among the first k there are n
pub record Reached (key : ℕ → ℕ) (C t n k : ℕ) : Type 0 where
  pub at_most : k ≤ C
  pub found : n ≡ reach key k t

module _ (key : ℕ → ℕ) (C t : ℕ) where
  -- none yet
  pub reach_begin : Reached key C t 0 0
  unfolding below filter count
  reach_begin = record { at_most = omega arith; found = refl }

  module _ {n k : ℕ} (v : Reached key C t n k) where
    -- no more than keys
    pub reach_few : n ≤ k
    reach_few = omega (arith, v.found, count_below_le (λ j. leb t (key j)) k)

    module _ (h : k < C) where
      -- one that is
      pub reach_more : t ≤ key k → Reached key C t (n + 1) (k + 1)
      reach_more l =
          record { at_most = omega arith; found = rw (add-one k, count_below (λ j. leb t (key j)) k, le-leb t (key k) l, ← v.found) }

      -- one that is not
      pub reach_same : key k < t → Reached key C t n (k + 1)
      reach_same l =
          record { at_most = omega arith; found = rw (add-one k, count_below (λ j. leb t (key j)) k, lt-leb t (key k) l, ← v.found) (omega arith) }

    -- all of them
    pub reach_done : C ≤ k → n ≡ reach key C t
    reach_done h = let e : k ≡ C = omega (arith, v.at_most) in rw (← e) v.found

-- ---- the cut

-- low is reached by n or more, high by fewer
pub record Halving (key : ℕ → ℕ) (C n low high : ℕ) : Type 0 where
  pub under : low < high
  pub top : high ≤ 2 ^ 63
  pub reached : n ≤ reach key C low
  pub passed : reach key C high < n

module _ {w : List ℕ} {C n : ℕ} (p : CutAsks w C n) where
  -- all keys reach 0, and none 2^63
  pub cut_begin : Halving (key_at w) C n 0 9223372036854775808
  cut_begin =
      record {
        under = omega arith;
        top = omega arith;
        reached = omega (arith, p.most, all_reach);
        passed = omega (arith, p.least, none_reach);
      }
    where
      all_reach : reach (key_at w) C 0 ≡ C
      all_reach = count_below_agree (λ j. leb 0 (key_at w j)) (λ j. true) C (λ j h. le-leb 0 (key_at w j) (omega arith)) ∙ count_all true (below C) ∙ length_below C

      none_reach : reach (key_at w) C 9223372036854775808 ≡ 0
      none_reach =
          count_below_agree (λ j. leb 9223372036854775808 (key_at w j)) (λ j. false) C
          (λ j h. lt-leb 9223372036854775808 (key_at w j) (omega (arith, p.small j h)))
          ∙ count_all false (below C)

  module _ {low high : ℕ} (v : Halving (key_at w) C n low high) where
    module _ (h : 1 < high - low) where
      -- the upper half
      pub cut_up : n ≤ reach (key_at w) C (low + (high - low) / 2) → Halving (key_at w) C n (low + (high - low) / 2) high
      cut_up l = record { under = omega arith; top = v.top; reached = l; passed = v.passed }

      -- the lower half
      pub cut_down : reach (key_at w) C (low + (high - low) / 2) < n → Halving (key_at w) C n low (low + (high - low) / 2)
      cut_down l = record { under = omega arith; top = omega (arith, v.top); reached = v.reached; passed = l }

    -- nothing is left between
    pub cut_done : high - low ≤ 1 → Cut (key_at w) C n low
    cut_done h =
        let e : high ≡ low + 1 = omega (arith, v.under) in
        record { reached = v.reached; passed = rw e at v.passed; small = omega (arith, v.top) }

-- ---- the flags

-- the first k flags, and the place of the next patch at the cut
pub record Marked (w : List ℕ) (C t n : ℕ) (fs₀ fs : List ℕ) (place k : ℕ) : Type 0 where
  pub at_most : k ≤ C
  pub only : Only 0 k fs₀ fs
  pub place_is : place ≡ reach (key_at w) C (t + 1) + count (λ j. eqb (key_at w j) t) (below k)
  pub each : (j : ℕ) → j < k → get_or fs j 0 ≡ cond (leb n (rank (key_at w) C j)) 0 1

module _ {w : List ℕ} {C t passing n : ℕ} {fs₀ : List ℕ} (p : MarkAsks w C t passing n fs₀) where
  -- none yet
  pub mark_begin : Marked w C t n fs₀ fs₀ passing 0
  unfolding below filter count
  mark_begin = record { at_most = omega arith; only = only_none 0 0 fs₀; place_is = p.passes ∙ omega arith; each = λ j h. absurd (omega arith) }

  module _ {fs : List ℕ} {place k : ℕ} (v : Marked w C t n fs₀ fs place k) (h : k < C) where
    -- a place is at most twice C
    pub place_few : place ≤ C + C
    place_few = omega (arith, v.place_is, count_below_le (λ j. leb (t + 1) (key_at w j)) C, count_below_le (λ j. eqb (key_at w j) t) k)

    -- the flag fits
    pub mark_fit : k < length fs
    mark_fit = omega (arith, p.flags_fit, v.only.long)

    module _ {key flag : ℕ} (ek : key ≡ key_at w k) (ef : flag ≡ flag_of key t place n) where
      -- with the next flag
      next : (j : ℕ) → j < k + 1 → get_or (set fs k flag) j 0 ≡ cond (leb n (rank (key_at w) C j)) 0 1
      next j l = go (dec_lt j k)
        where
          go : Dec (j < k) → get_or (set fs k flag) j 0 ≡ cond (leb n (rank (key_at w) C j)) 0 1
          go (yes b) = get_or-set_other fs k j flag 0 (omega arith) ∙ v.each j b
          go (no b) =
              let e : j ≡ k = omega arith in
              rw e (get_or-set_same fs k flag 0 mark_fit ∙ ef ∙ rw (ek, v.place_is) (flag_is (key_at w) C n t k p.is_cut h))

      -- and nothing else written
      next_only : Only 0 (k + 1) fs₀ (set fs k flag)
      next_only = rw (zero-add k) at (only_next flag v.only)

      -- a patch at the cut takes a place
      pub mark_at : key ≡ t → Marked w C t n fs₀ (set fs k flag) (place + 1) (k + 1)
      mark_at e =
          record {
            at_most = omega arith;
            only = next_only;
            place_is = rw (add-one k) (omega (arith, v.place_is, rw (eq-eqb (key_at w k) t (sym ek ∙ e)) at (count_below (λ j. eqb (key_at w j) t) k)));
            each = next;
          }

      -- the others do not
      pub mark_past : (key ≡ t → ⊥) → Marked w C t n fs₀ (set fs k flag) place (k + 1)
      mark_past e =
          record {
            at_most = omega arith;
            only = next_only;
            place_is = rw (add-one k) (omega (arith, v.place_is, rw (ne_eqb (key_at w k) t (λ q. e (ek ∙ q))) at (count_below (λ j. eqb (key_at w j) t) k)));
            each = next;
          }

  -- all of them
  pub mark_done : {fs : List ℕ} {place k : ℕ} → Marked w C t n fs₀ fs place k → C ≤ k → MarkGives w C n fs₀ fs
  mark_done {fs} {place} {k} v h =
      let e : k ≡ C = omega (arith, v.at_most) in
      record { only = rw e at v.only; flagged = λ j l. v.each j (omega arith) }
