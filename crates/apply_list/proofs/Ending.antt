-- The outcome of the call: a refusal that leaves every room as it was, or the mended lists in their rooms. Assumes nothing.
use mathlib.Core.Path.{◌≡◌, sym, ap, ap₂, ◌∙◌}
use mathlib.Core.List.{List, [], ◌∷◌}
use Prim.Native.Nat.{ℕ, ◌+◌, ◌-◌, ◌*◌, ◌/◌, ◌≤◌}
use native.Mathlib.Omega.{arith}
use lib.ListN.{length, take}
use lib.Seq.{length-take-le}
use lib.Ieee.{Float, nan}
use Rattle.rows.specs.Region.{OnlyOf, HoldsOf, Only, Filled}
use Rattle.rows.proofs.Regions.{only_both}
use Rattle.filling.proofs.Filling.{filled_in, cleared_is}
use Rattle.rules.specs.Mesh.{points_of, faces_of, flat_points, flat_faces, zero64}
use Rattle.rules.specs.Refusal.{Check, ok, no, decided}
use Rattle.rules.specs.Rooms.{work_room, filled, cleared, outcome, accepted}
use Rattle.rules.specs.Applying.{Mesh, applied}
use Rattle.rules.specs.ApplyCall.{ApplyRooms, apply_check, apply_list}
use Rattle.rule_laws.proofs.Flat.{length_flat_points, length_flat_faces}
use Rattle.std.specs.Prelude.{Result, Ok, Err, ⊤}
use Rattle.refuse.specs.Verdicts.{number_of, place_of}
use Rattle.refuse.specs.declared.Refusal.{Refusal}
use Rattle.apply_refusal.specs.Checks.{apply_checks}
use Rattle.apply_refusal.proofs.Accept.{apply_is, apply_accepted}
use Rattle.apply_lines.specs.Runs.{ApplyAsks, ApplyGives}
use Rattle.apply_list.specs.Answers.{rooms_of, outcome_of}

-- the bounds of what is cleared: P and F, the ends of the answers, the lengths of the rooms
pub record Sizes (P F p f out_points out_faces work : ℕ) : Type 0 where
  pub few_points : P ≤ 4194304
  pub few_faces : F ≤ 1048576
  pub points_end : p ≤ P + 3 * F
  pub faces_end : f ≤ F
  pub points_long : 3 * (P + 3 * F) ≤ out_points
  pub faces_long : 3 * F ≤ out_faces
  pub work_long : 16 * P + 64 * F + 64 ≤ work

module _ (points : List Float) (faces text : List ℕ) (ps : List Float) (xs w : List ℕ) where
  -- how many points and faces are given
  abbrev P : ℕ
  P = length points / 3

  abbrev F : ℕ
  F = length faces / 3

  -- what the rules leave
  abbrev m : Mesh
  m = applied (points_of points) (faces_of faces) text

  -- the entries that stand in each room
  abbrev entries : List ℕ
  entries = 3 * length m.points ∷ 3 * length m.faces ∷ []

  -- the rooms of an accepted call
  abbrev after : ApplyRooms
  after =
      record {
        out_points = filled zero64 (3 * (P + 3 * F)) (flat_points m.points) ps;
        out_faces = filled 0 (3 * F) (flat_faces m.faces) xs;
        work = cleared (work_room P F) w;
      }

  -- what the checks find
  abbrev checked : Check
  checked = decided (apply_checks points faces text (length ps) (length xs) (length w))

  -- a refusal changes no buffer
  pub is_refused : (r : Refusal) → no (number_of r) (place_of r) ≡ checked → outcome_of (Err r) ps xs w ≡ apply_list points faces text (rooms_of ps xs w)
  unfolding apply_list outcome
  is_refused r e = ap (λ c. outcome c (rooms_of ps xs w) entries after) (e ∙ apply_is points faces text (rooms_of ps xs w))

  module _ (e : ok ≡ checked) where
    -- the lines may be taken
    pub asks : ApplyAsks points faces text ps xs w
    asks =
        let a = apply_accepted points faces text (length ps) (length xs) (length w) (sym e) in
        record { input = a.input; applies = a.applies; room_points = a.room_out_points; room_faces = a.room_out_faces; room_work = a.room_work }

    module _ {ps₁ : List Float} {xs₁ w₁ : List ℕ} {p f : ℕ} (g : ApplyGives points faces text ps xs w ps₁ xs₁ w₁ p f) where
      -- the bounds of what is cleared
      pub sizes : Sizes P F p f (length ps₁) (length xs₁) (length w₁)
      unfolding work_room
      sizes =
          let a = asks in
          let lp = g.only_points.long in
          let lf = g.only_faces.long in
          let lw = g.only_work.long in
          record {
            few_points = a.input.faces_fine.points;
            few_faces = a.input.faces_fine.few;
            points_end = g.points_fit;
            faces_end = g.faces_fit;
            points_long = omega (arith, a.room_points);
            faces_long = omega (arith, a.room_faces);
            work_long = omega (arith, a.room_work);
          }

      -- how many there are
      entries_are : 3 * p ∷ 3 * f ∷ [] ≡ entries
      entries_are =
          let z = sizes in
          let i : 3 * p ≡ 3 * length m.points = sym (length-take-le (3 * p) ps₁ (omega (arith, z))) ∙ ap length g.points_are ∙ length_flat_points m.points in
          let j : 3 * f ≡ 3 * length m.faces = sym (length-take-le (3 * f) xs₁ (omega (arith, z))) ∙ ap length g.faces_are ∙ length_flat_faces m.faces in
          ap₂ (λ a b. a ∷ b ∷ []) i j

      -- the answers in their rooms, and the rest cleared: the rules' outcome
      pub is_done :
          {ps₂ : List Float} {xs₂ w₂ : List ℕ}
          → OnlyOf nan (3 * p) (3 * (P + 3 * F) - 3 * p) ps₁ ps₂ → HoldsOf nan (3 * p) (3 * (P + 3 * F) - 3 * p) (λ i. zero64) ps₂
          → Only (3 * f) (3 * F - 3 * f) xs₁ xs₂ → Filled (3 * f) (3 * F - 3 * f) 0 xs₂
          → Only 0 (16 * P + 64 * F + 64) w₁ w₂ → Filled 0 (16 * P + 64 * F + 64) 0 w₂
          → outcome_of (Ok (record { points = 3 * p; faces = 3 * f })) ps₂ xs₂ w₂ ≡ apply_list points faces text (rooms_of ps xs w)
      unfolding apply_list outcome work_room
      is_done {ps₂} {xs₂} {w₂} op hp of hf ow hw =
          let z = sizes in
          let a = asks in
          let q : ps₂ ≡ after.out_points = filled_in a.room_points (omega (arith, z)) g.only_points g.points_are op hp in
          let b : xs₂ ≡ after.out_faces = filled_in a.room_faces (omega (arith, z)) g.only_faces g.faces_are of hf in
          let c : w₂ ≡ after.work = cleared_is a.room_work (only_both g.only_work ow) hw in
          ap₂ (λ (k : List ℕ) (rooms : ApplyRooms). record { answer = accepted k; rooms = rooms }) entries_are
          (λ i. record { out_points = q i; out_faces = b i; work = c i })
          ∙ ap (λ c. outcome c (rooms_of ps xs w) entries after) (e ∙ apply_is points faces text (rooms_of ps xs w))
