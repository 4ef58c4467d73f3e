-- With fewer than 2^32 labels no place of the patch call is lost in 32 bits. Assumes nothing.
use mathlib.Core.Path.{◌≡◌, refl, sym, ◌∙◌}
use mathlib.Core.Bool.{not, ◌||◌}
use mathlib.Core.List.{List}
use Prim.Native.Nat.{ℕ, ◌/◌, ◌≤◌, ◌<◌, ◌^◌}
use native.Mathlib.Omega.{arith}
use native.Mathlib.Decide.{dec_lt}
use lib.ListN.{length}
use lib.Dec.{eqb, ltb}
use lib.Ieee.{Float}
use Rattle.rules.specs.Lists.{all}
use Rattle.rules.specs.Mesh.{points_of, coordinates}
use Rattle.rules.specs.Refusal.{Check, no1, no2, no4, no9, no10, in_domain, no_patch, most_points, most_faces}
use Rattle.rules.specs.Refusal as refusal
use Rattle.rules.specs.Rooms.{outcome}
use Rattle.rules.specs.PatchesCall.{patches_rooms, PatchesRooms, patches_check, find_patches}
use Rattle.rules.specs.Patches.{Filter}
use Rattle.rule_laws.proofs.Flat.{length_points}
use Rattle.refuse.proofs.Singles.{no2_fine}
use Rattle.shell.specs.Clip.{clip, clipped}
use Rattle.place_laws.proofs.Places.{Near, unless_near, at_first_near, no5_near, no6_near, step, end}
use Rattle.shell.proofs.Patching.{clip_small, clip_large}

-- 4: at most P
no4_near : (points : List Float) → length points / 3 ≤ most_points → Near (no4 (points_of points))
unfolding no4
no4_near points l = at_first_near 4 (λ p. not (all in_domain (coordinates p))) (points_of points) (omega (arith, length_points points))

-- 9: at most the number of labels
no9_near : (C : ℕ) (labels : List ℕ) → length labels < 2 ^ 32 → Near (no9 C labels)
unfolding no9
no9_near C labels l = at_first_near 9 (λ l. not (eqb l no_patch || ltb l C)) labels l

-- of the patch call
patches_near : (points : List Float) (faces labels : List ℕ) (C : ℕ) (r : PatchesRooms) → length labels < 2 ^ 32 → Near (patches_check points faces labels C r)
unfolding patches_check patches_rooms no1 no2 no10
patches_near points faces labels C r l =
    step _ _ (unless_near 1 0 _ (omega arith))
    (λ _. step _ _ (unless_near 1 1 _ (omega arith))
    (λ _. step _ _ (unless_near 2 0 _ (omega arith))
    (λ e. step _ _ (unless_near 2 1 _ (omega arith))
    (λ f. step _ _ (unless_near 2 2 _ (omega arith))
    (λ _. step _ _ (no4_near points (no2_fine 0 (length points / 3) most_points e))
    (λ _. step _ _ (no5_near (length points / 3) faces (no2_fine 1 (length faces / 3) most_faces f))
    (λ _. step _ _ (no9_near C labels l)
    (λ _. step _ _ (unless_near 10 0 _ (omega arith))
    (λ _. step _ _ (no6_near (patches_rooms C) _ (omega arith))
    (λ _. end))))))))))

-- a place below 2^32 is told as it is
clip_near : (p : ℕ) → p < 2 ^ 32 → clip p ≡ p
clip_near p h = go (dec_lt p 4294967295)
  where
    go : Dec (p < 4294967295) → clip p ≡ p
    go (yes l) = sym (clip_small p l)
    go (no l) = sym (clip_large p (omega arith)) ∙ omega arith

-- so is every place of such an outcome
outcome_kept : {R : Type 0} (c : Check) (given : R) (entries : List ℕ) (after : R) → Near c → clipped (outcome c given entries after) ≡ outcome c given entries after
unfolding outcome Near
outcome_kept refusal.ok given entries after h = refl
outcome_kept (refusal.no n p) given entries after h = rw (clip_near p h)

-- the outcome for C is the rules' own
pub place_kept :
    (points : List Float) (faces labels : List ℕ) (C : ℕ) (by : Filter) (r : PatchesRooms) → length labels < 2 ^ 32
    → clipped (find_patches points faces labels C by r) ≡ find_patches points faces labels C by r
unfolding find_patches
place_kept points faces labels C by r l = outcome_kept (patches_check points faces labels C r) _ _ _ (patches_near points faces labels C r l)
