-- From what each step of an accepted call gives to its rooms. Assumes nothing.
use mathlib.Core.Path.{◌≡◌, sym, ap, subst, ◌∙◌}
use mathlib.Core.Bool.{cond}
use mathlib.Core.List.{List}
use Prim.Native.Nat.{ℕ, ◌*◌, ◌≤◌}
use native.Mathlib.Omega.{arith}
use lib.ListN.{length, get_or}
use lib.Ieee.{Float}
use Rattle.rows.specs.Region.{Only, Filled}
use Rattle.rows.proofs.Regions.{only_both, only_more}
use Rattle.rules.specs.Mesh.{points_of, faces_of}
use Rattle.rules.specs.Patches as rule
use Rattle.patches_refusal.specs.Checks.{PatchesAccepted}
use Rattle.patch_sums.specs.Sums.{CountGives, SumGives, record_at}
use Rattle.patch_rank.specs.Rank.{Area}
use Rattle.patches.specs.Answers.{share_of, small, KeepAsks, KeepGives, DropGives, FillGives, rooms_of}
use Rattle.patches.proofs.Areas.{areas_are}
use Rattle.patches.proofs.Deciding.{flag_is}

module _ {points : List Float} {faces labels : List ℕ} {C : ℕ} (cs : List ℕ) (xs : List Float) (fs w : List ℕ)
    (p : PatchesAccepted points faces labels C (length cs) (length xs) (length fs) (length w)) where
  module _ {xs' : List Float} (s : SumGives points faces labels xs C xs') where
    -- the areas can be ranked
    pub keep_asks : KeepAsks xs' C fs w
    keep_asks =
        record {
          few = omega (arith, p.patches);
          fit = omega (arith, p.room_numbers, s.only.long);
          flags_fit = p.room_flags;
          work_fit = omega (arith, p.room_work);
          areas = λ k h. subst (λ r. Area r.area) (sym (s.summed k h)) (areas_are p k);
        }

    -- the work room is as long as stated
    pub clear_fits : {most : rule.Limit ℕ} {fs₁ w₁ : List ℕ} → KeepGives xs' C most fs w fs₁ w₁ → 4 * C ≤ length w₁
    clear_fits g = omega (arith, p.room_work, g.only_work.long)

    -- all rooms
    pub filled :
        (by : rule.Filter) {cs' fs₁ fs₂ w₁ w₂ : List ℕ} {least : rule.Limit Float} → CountGives labels cs C cs' → KeepGives xs' C by.keep_largest fs w fs₁ w₁
        → least ≡ share_of xs' C by.min_fraction → DropGives cs' xs' C by least fs₁ fs₂ → Only 0 (4 * C) w₁ w₂ → Filled 0 (4 * C) 0 w₂
        → FillGives points faces labels C by (rooms_of cs xs fs w) (rooms_of cs' xs' fs₂ w₂)
    filled by {cs'} {fs₁} {fs₂} {w₁} {w₂} {least} n g e d o z =
        record {
          only_counts = n.only;
          only_numbers = s.only;
          only_flags = only_both g.only_flags d.only;
          only_work = only_both (only_more (omega arith) (omega arith) g.only_work) o;
          counted = n.counted;
          summed = s.summed;
          flagged = λ k h.
              d.flagged k h
              ∙ ap (λ l. cond (small by l (get_or cs' k 0) (record_at xs' k)) 0 (get_or fs₁ k 0)) e
              ∙ ap (λ f. cond (small by (share_of xs' C by.min_fraction) (get_or cs' k 0) (record_at xs' k)) 0 f) (g.flagged k h)
              ∙ flag_is (points_of points) (faces_of faces) labels C xs' s.summed by k h (n.counted k h);
          cleared = z;
        }
