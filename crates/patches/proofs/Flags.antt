-- The flags: by the ranking, and then by the other limits. Assumes nothing.
use mathlib.Core.Path.{◌≡◌, sym, ap, ◌∙◌}
use mathlib.Core.Bool.{Bool, true, false, cond}
use mathlib.Core.List.{List}
use Prim.Native.Nat.{ℕ, ◌+◌, ◌*◌, ◌≤◌, ◌<◌}
use native.Mathlib.Nat.{zero-add}
use native.Mathlib.Omega.{arith}
use native.Mathlib.Decide.{dec_lt}
use lib.ListN.{length, get_or, set}
use lib.Seq.{get_or-set_same, get_or-set_other}
use lib.Ieee.{Float}
use Rattle.rows.specs.Region.{Only, Filled, Out.above}
use Rattle.rows.proofs.Regions.{only_none, only_next, only_more}
use Rattle.rules.specs.Patches as rule
use Rattle.patch_sums.specs.Sums.{record_at}
use Rattle.patch_rank.specs.Rank.{RankGives}
use Rattle.patches.specs.declared.Limit.{Limit}
use Rattle.patches.specs.declared.Limit.TheVariants as held
use Rattle.patches.specs.Answers.{limit_of, small, after, DropAsks, DropGives, KeepGives}

-- ---- the loop that clears flags

-- the first k flags are decided
pub record Dropped (cs : List ℕ) (xs : List Float) (C : ℕ) (by : rule.Filter) (least : rule.Limit Float) (fs₀ fs : List ℕ) (k : ℕ) : Type 0 where
  pub at_most : k ≤ C
  pub only : Only 0 k fs₀ fs
  pub each : (j : ℕ) → j < k → get_or fs j 0 ≡ cond (small by least (get_or cs j 0) (record_at xs j)) 0 (get_or fs₀ j 0)

-- what a turn reads and writes
pub record Turn (cs : List ℕ) (xs : List Float) (fs : List ℕ) (k : ℕ) : Type 0 where
  pub counts_fit : k < length cs
  pub fit : 7 * k + 7 ≤ length xs
  pub flags_fit : k < length fs

module _ {cs : List ℕ} {xs : List Float} {C : ℕ} {fs₀ : List ℕ} (p : DropAsks cs xs C fs₀) {by : rule.Filter} {least : rule.Limit Float} where
  -- none yet
  pub drop_begin : Dropped cs xs C by least fs₀ fs₀ 0
  drop_begin = record { at_most = omega arith; only = only_none 0 0 fs₀; each = λ j h. absurd (omega arith) }

  module _ {fs : List ℕ} {k : ℕ} (v : Dropped cs xs C by least fs₀ fs k) where
    module _ (h : k < C) where
      -- patch k is in bounds
      pub drop_turn : Turn cs xs fs k
      drop_turn =
          record { counts_fit = omega (arith, p.counts_fit); fit = omega (arith, p.fit); flags_fit = omega (arith, p.flags_fit, v.only.long) }

      -- its flag is cleared
      pub drop_one :
          {r : rule.Patch} {b : Bool} → r ≡ record_at xs k → b ≡ small by least (get_or cs k 0) r → b ≡ true → Dropped cs xs C by least fs₀ (set fs k 0) (k + 1)
      drop_one {r} {b} er ef t =
          record { at_most = omega arith; only = rw (zero-add k) at (only_next 0 v.only); each = λ j l. go j l (dec_lt j k) }
        where
          go : (j : ℕ) → j < k + 1 → Dec (j < k) → get_or (set fs k 0) j 0 ≡ cond (small by least (get_or cs j 0) (record_at xs j)) 0 (get_or fs₀ j 0)
          go j l (yes b) = get_or-set_other fs k j 0 0 (omega arith) ∙ v.each j b
          go j l (no b) =
              let q : j ≡ k = omega arith in
              rw q (get_or-set_same fs k 0 0 drop_turn.flags_fit ∙ ap (λ b. cond b 0 (get_or fs₀ k 0)) (sym t ∙ ef ∙ ap (small by least (get_or cs k 0)) er))

      -- it stays
      pub keep_one :
          {r : rule.Patch} {b : Bool} → r ≡ record_at xs k → b ≡ small by least (get_or cs k 0) r → b ≡ false → Dropped cs xs C by least fs₀ fs (k + 1)
      keep_one {r} {b} er ef t =
          record { at_most = omega arith; only = only_more (omega arith) (omega arith) v.only; each = λ j l. go j l (dec_lt j k) }
        where
          go : (j : ℕ) → j < k + 1 → Dec (j < k) → get_or fs j 0 ≡ cond (small by least (get_or cs j 0) (record_at xs j)) 0 (get_or fs₀ j 0)
          go j l (yes b) = v.each j b
          go j l (no b) =
              let q : j ≡ k = omega arith in
              rw q (v.only.same k (above (omega arith)) ∙ ap (λ b. cond b 0 (get_or fs₀ k 0)) (sym t ∙ ef ∙ ap (small by least (get_or cs k 0)) er))

    -- all are decided
    pub drop_done : C ≤ k → DropGives cs xs C by least fs₀ fs
    drop_done h =
        let e : k ≡ C = omega (arith, v.at_most) in
        record { only = rw e at v.only; flagged = λ j l. v.each j (omega arith) }

-- ---- the ranking

module _ {xs : List Float} {C : ℕ} {fs w fs' : List ℕ} {by : Limit ℕ} where
  -- no setting: all are flagged
  pub keep_all : by ≡ held.Absent → Only 0 C fs fs' → Filled 0 C 1 fs' → KeepGives xs C (limit_of by) fs w fs' w
  unfolding after
  keep_all e o z =
      record { only_flags = o; only_work = only_none 0 (2 * C) w; flagged = λ k l. rw (zero-add k) at (z.each k l) ∙ rw e }

  -- the first n
  pub keep_first : {n : ℕ} {w' : List ℕ} → by ≡ held.Limit n → RankGives xs C n fs w fs' w' → KeepGives xs C (limit_of by) fs w fs' w'
  unfolding after
  keep_first e g = record { only_flags = g.only_flags; only_work = g.only_work; flagged = λ k l. g.flagged k l ∙ rw e }
