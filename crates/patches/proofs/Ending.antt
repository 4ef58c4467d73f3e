-- The outcome of the patch call: a refusal that leaves the rooms as they were, or the rooms filled. Assumes nothing.
use mathlib.Core.Path.{◌≡◌, sym, ap, ◌∙◌}
use mathlib.Core.Bool.{cond}
use mathlib.Core.List.{List, [], ◌∷◌, map}
use Prim.Native.Nat.{ℕ, ◌*◌}
use native.Mathlib.Omega.{arith}
use lib.ListN.{length, length-map}
use lib.Dec.{eqb}
use lib.Ieee.{Float}
use Rattle.rules.specs.Lists.{below, count, each}
use Rattle.rules.specs.Mesh.{points_of, faces_of, zero64}
use Rattle.rules.specs.Refusal.{Check, ok, no, decided}
use Rattle.rules.specs.Rooms.{filled, cleared, outcome}
use Rattle.rules.specs.Patches as rule
use Rattle.rules.specs.PatchesCall.{PatchesRooms, patches_check, find_patches}
use Rattle.rule_laws.proofs.Lists.{length_below}
use Rattle.filling.proofs.Filling.{filled_whole, cleared_is}
use Rattle.refuse.specs.Verdicts.{number_of, place_of}
use Rattle.refuse.specs.declared.Refusal.{Refusal}
use Rattle.patches_refusal.specs.Checks.{patches_list, PatchesAccepted}
use Rattle.patches_refusal.proofs.Accept.{patches_is, patches_accepted}
use Rattle.std.specs.Prelude.{Ok, Err}
use Rattle.patches.specs.Answers.{FillGives, outcome_of}
use Rattle.patches.proofs.Rooms.{front_is, sevens_are}

module _ (points : List Float) (faces labels : List ℕ) (C : ℕ) (by : rule.Filter) (r : PatchesRooms) where
  -- the rooms of an accepted call
  abbrev after : PatchesRooms
  after =
      record {
        face_counts = filled 0 C (rule.face_counts labels C) r.face_counts;
        numbers = filled zero64 (7 * C) (each rule.seven (rule.patches (points_of points) (faces_of faces) labels C)) r.numbers;
        flags = filled 0 C (rule.flags by (rule.face_counts labels C) (rule.patches (points_of points) (faces_of faces) labels C)) r.flags;
        work = cleared (4 * C) r.work;
      }

  -- the rules' outcome, by the check
  whole : (c : Check) → c ≡ patches_check points faces labels C r → outcome c r (C ∷ 7 * C ∷ C ∷ []) after ≡ find_patches points faces labels C by r
  unfolding find_patches
  whole c e = ap (λ c. outcome c r (C ∷ 7 * C ∷ C ∷ []) after) e

  -- the checks at the lengths of the rooms
  abbrev checks : List Check
  checks = patches_list points faces labels C (length r.face_counts) (length r.numbers) (length r.flags) (length r.work)

  -- a refusal changes no buffer
  pub is_refused : (f : Refusal) → no (number_of f) (place_of f) ≡ decided checks → outcome_of (Err f) r ≡ find_patches points faces labels C by r
  unfolding outcome
  is_refused f e = whole (no (number_of f) (place_of f)) (e ∙ patches_is points faces labels C r)

  module _ (e : ok ≡ decided checks) where
    -- what an accepted call may start from
    pub is_accepted : PatchesAccepted points faces labels C (length r.face_counts) (length r.numbers) (length r.flags) (length r.work)
    is_accepted = patches_accepted points faces labels C _ _ _ _ (sym e)

    module _ {r' : PatchesRooms} (g : FillGives points faces labels C by r r') where
      -- each room
      counts_are : r'.face_counts ≡ filled 0 C (rule.face_counts labels C) r.face_counts
      unfolding rule.face_counts
      counts_are =
          filled_whole 0 is_accepted.room_face_counts g.only_counts
          (front_is 0 (λ k. count (eqb k) labels) C r'.face_counts (omega (arith, is_accepted.room_face_counts, g.only_counts.long)) g.counted)

      numbers_are : r'.numbers ≡ filled zero64 (7 * C) (each rule.seven (rule.patches (points_of points) (faces_of faces) labels C)) r.numbers
      unfolding rule.patches rule.seven
      numbers_are =
          filled_whole zero64 is_accepted.room_numbers g.only_numbers
          (sevens_are (rule.patch (points_of points) (faces_of faces) labels) C r'.numbers (omega (arith, is_accepted.room_numbers, g.only_numbers.long)) g.summed)

      -- there are C records
      length_rs : length (rule.patches (points_of points) (faces_of faces) labels C) ≡ C
      unfolding rule.patches
      length_rs = length-map (below C) (rule.patch (points_of points) (faces_of faces) labels) ∙ length_below C

      flags-are :
          r'.flags ≡ filled 0 C (rule.flags by (rule.face_counts labels C) (rule.patches (points_of points) (faces_of faces) labels C)) r.flags
      unfolding rule.flags
      flags-are =
          let flag : ℕ → ℕ = λ k. cond (rule.falls by (rule.face_counts labels C) (rule.patches (points_of points) (faces_of faces) labels C) k) 0 1 in
          filled_whole 0 is_accepted.room_flags g.only_flags
          (front_is 0 flag C r'.flags (omega (arith, is_accepted.room_flags, g.only_flags.long)) g.flagged)
          ∙ ap (λ n. filled 0 C (map flag (below n)) r.flags) (sym length_rs)

      -- so all of them
      rooms_are : r' ≡ after
      rooms_are =
          rw (counts_are, numbers_are, flags-are, cleared_is is_accepted.room_work g.only_work g.cleared)

      -- the answer and the rooms
      pub is_done : outcome_of (Ok (record { face_counts = C; numbers = 7 * C; flags = C })) r' ≡ find_patches points faces labels C by r
      unfolding outcome
      is_done = ap (outcome_of (Ok (record { face_counts = C; numbers = 7 * C; flags = C }))) rooms_are ∙ whole ok (e ∙ patches_is points faces labels C r)
