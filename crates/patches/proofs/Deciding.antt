-- The rules' flag of a patch, by the rooms: the records that stand there are the rules' own. Assumes nothing.
use mathlib.Core.Path.{◌≡◌, refl, sym, ap, ◌∙◌}
use mathlib.Core.Bool.{Bool, true, false, ◌||◌, cond}
use mathlib.Core.List.{List, map-map}
use Prim.Native.Nat.{ℕ, ◌<◌}
use native.Mathlib.Omega.{arith}
use lib.Dec.{eqb, leb}
use lib.ListN.{length, get_or, length-map}
use lib.Ieee.{Float}
use Rattle.rules.specs.Lists.{below, count, through}
use Rattle.rules.specs.Mesh.{Point, Face, zero64}
use Rattle.rules.specs.Float.{◌⊗◌}
use Rattle.rules.specs.Rank.{outranks}
use Rattle.rules.specs.Patches as rule
use Rattle.rule_laws.proofs.Lists.{length_below, get_or_map_in}
use Rattle.rule_laws.proofs.Rising.{map_same, all_imp, below_all, get_or_below}
use Rattle.rule_laws.proofs.Counting.{count_below_agree}
use Rattle.patch_sums.specs.Sums.{record_at}
use Rattle.patch_rank.specs.Rank.{area_at}
use Rattle.patches.specs.Answers.{largest_in, share_of, small, after}

-- a flag by two groups of tests
two_tests : (a b : Bool) → ◌≡◌ {A = ℕ} (cond a 0 (cond b 0 1)) (cond (a || b) 0 1)
two_tests true b = refl
two_tests false b = refl

module _ (ps : List Point) (fs : List Face) (labels : List ℕ) (C : ℕ) (xs : List Float) (summed : (k : ℕ) → k < C → record_at xs k ≡ rule.patch ps fs labels k) where
  -- all C records
  abbrev rs : List rule.Patch
  rs = rule.patches ps fs labels C

  -- there are C
  length_rs : length rs ≡ C
  unfolding rule.patches
  length_rs = length-map (below C) (rule.patch ps fs labels) ∙ length_below C

  -- record k
  rs_at : (k : ℕ) → k < C → get_or rs k rule.empty ≡ record_at xs k
  unfolding rule.patches
  rs_at k h =
      get_or_map_in (rule.patch ps fs labels) (below C) k 0 rule.empty (omega (arith, length_below C))
      ∙ ap (rule.patch ps fs labels) (get_or_below C k h)
      ∙ sym (summed k h)

  -- face count k
  counts_at : (k : ℕ) → k < C → get_or (rule.face_counts labels C) k 0 ≡ count (eqb k) labels
  unfolding rule.face_counts
  counts_at k h =
      get_or_map_in (λ k. count (eqb k) labels) (below C) k 0 0 (omega (arith, length_below C)) ∙ ap (λ k. count (eqb k) labels) (get_or_below C k h)

  -- area k
  area_at_is : (k : ℕ) → k < C → rule.area_of rs k ≡ area_at xs k
  unfolding rule.area_of
  area_at_is k h = ap (λ r. r.area) (rs_at k h)

  -- the largest area
  largest_is : rule.largest rs ≡ largest_in xs C
  unfolding rule.largest rule.patches
  largest_is =
      ap (through rule.higher zero64)
      (map-map (λ r. r.area) (rule.patch ps fs labels) (below C)
      ∙ map_same (λ k. (rule.patch ps fs labels k).area) (area_at xs) (below C)
      (all_imp (λ k. k < C) (λ k. (rule.patch ps fs labels k).area ≡ area_at xs k) (λ k h. ap (λ r. r.area) (sym (summed k h))) (below C) (below_all C)))

  -- the limit that a fraction sets
  share_is : (by : rule.Limit Float) → rule.of_largest rs by ≡ share_of xs C by
  unfolding rule.of_largest share_of
  share_is rule.absent = refl
  share_is (rule.limit part) = ap (λ m. rule.limit (m ⊗ part)) largest_is

  -- after the first n
  past_is : (by : rule.Limit ℕ) (k : ℕ) → k < C → rule.past rs by k ≡ after xs C by k
  unfolding rule.past after outranks
  past_is rule.absent k h = refl
  past_is (rule.limit n) k h =
      ap (leb n)
      (ap (λ m. count (λ j. outranks (rule.area_of rs) j k) (below m)) length_rs
      ∙ count_below_agree (λ j. outranks (rule.area_of rs) j k) (λ j. outranks (area_at xs) j k) C (λ j l. rw (area_at_is j l, area_at_is k h)))

  -- the flag of patch k
  pub flag_is :
      (by : rule.Filter) {n : ℕ} (k : ℕ) → k < C → n ≡ count (eqb k) labels
      → ◌≡◌ {A = ℕ} (cond (small by (share_of xs C by.min_fraction) n (record_at xs k)) 0 (cond (after xs C by.keep_largest k) 0 1))
      (cond (rule.falls by (rule.face_counts labels C) rs k) 0 1)
  unfolding rule.falls
  flag_is by {n} k h e =
      two_tests (small by (share_of xs C by.min_fraction) n (record_at xs k)) (after xs C by.keep_largest k)
      ∙ rw (counts_at k h, rs_at k h, area_at_is k h, share_is by.min_fraction, past_is by.keep_largest k h, e)
