-- The outcome of a repair: a refusal that leaves every room as it was, or the mended lists in their rooms. Assumes nothing.
use mathlib.Core.Path.{◌≡◌, sym, ap, ap₂, ◌∙◌}
use mathlib.Core.List.{List, [], ◌∷◌}
use Prim.Native.Nat.{ℕ, ◌+◌, ◌-◌, ◌*◌, ◌/◌, ◌≤◌}
use native.Mathlib.Omega.{arith}
use lib.ListN.{length, take}
use lib.Seq.{length-take-le}
use lib.Ieee.{Float, nan}
use Rattle.rows.specs.Region.{OnlyOf, HoldsOf, Only, Filled}
use Rattle.rows.proofs.Regions.{only_both}
use Rattle.filling.proofs.Filling.{filled_in, filled_whole, cleared_is}
use Rattle.rules.specs.Mesh.{points_of, faces_of, flat_points, flat_faces, zero64}
use Rattle.rules.specs.Refusal.{Check, ok, no, decided}
use Rattle.rules.specs.Repair.{repaired}
use Rattle.rules.specs.State.{State, report_counts}
use Rattle.rules.specs.Rooms.{work_room, filled, cleared, outcome, accepted}
use Rattle.rules.specs.RepairCall.{RepairRooms, repair}
use Rattle.rule_laws.proofs.Flat.{flat_points_back, flat_faces_back, length_faces_take}
use Rattle.std.specs.Prelude.{Ok, Err}
use Rattle.refuse.specs.Verdicts.{number_of, place_of}
use Rattle.refuse.specs.declared.Refusal.{Refusal}
use Rattle.repair_refusal.specs.Checks.{repair_list, RepairAccepted}
use Rattle.repair_refusal.proofs.Accept.{repair_is, repair_accepted}
use Rattle.lending.specs.declared.Mended.{Mended}
use Rattle.passes.specs.Passing.{lists}
use Rattle.lending.specs.Mended.{MendAsks, MendGives}
use Rattle.repair.specs.Answers.{rooms_of, outcome_of, ReportAsks, ReportGives}
use Rattle.rule_laws.proofs.Relabel.{Alike}
use Rattle.rule_laws.proofs.Origins.{origins}
use Rattle.rule_laws.proofs.Carried.{flat_same}
use Rattle.leaving.specs.Pass.{standing, carried}
use Rattle.leaving.proofs.Leaving.{length_points_take}
use Rattle.leaving.proofs.Standing.{stands_alike, carried_origins}

-- the bounds of what is cleared: P and F, the ends of the answers, the lengths of the rooms
pub record Sizes (P F p f out_points out_faces report origins work : ℕ) : Type 0 where
  pub few_points : P ≤ 4194304
  pub few_faces : F ≤ 1048576
  pub points_end : p ≤ P + 3 * F
  pub faces_end : f ≤ F
  pub points_long : 3 * (P + 3 * F) ≤ out_points
  pub faces_long : 3 * F ≤ out_faces
  pub report_long : report_counts ≤ report
  pub origins_long : F ≤ origins
  pub work_long : 16 * P + 64 * F + 64 ≤ work

module _ (points : List Float) (faces : List ℕ) (s : Float) (o : ℕ) (ps : List Float) (xs rs os w : List ℕ) where
  -- how many points and faces are given
  abbrev P : ℕ
  P = length points / 3

  abbrev F : ℕ
  F = length faces / 3

  -- what the rules leave
  abbrev m : State
  m = repaired s o (points_of points) (faces_of faces)

  -- the entries that stand in each room
  abbrev entries : List ℕ
  entries = 3 * length m.points ∷ 3 * length m.faces ∷ report_counts ∷ length m.faces ∷ []

  -- the rooms of an accepted repair
  abbrev after : RepairRooms
  after =
      record {
        out_points = filled zero64 (3 * (P + 3 * F)) (flat_points m.points) ps;
        out_faces = filled 0 (3 * F) (flat_faces m.faces) xs;
        report = filled 0 report_counts m.report rs;
        origins = filled 0 F (origins m.faces) os;
        work = cleared (work_room P F) w;
      }

  -- the checks at the lengths of the rooms
  abbrev checks : List Check
  checks = repair_list points faces s o (length ps) (length xs) (length rs) (length os) (length w)

  -- a refusal changes no buffer
  pub is_refused : (r : Refusal) → no (number_of r) (place_of r) ≡ decided checks → outcome_of (Err r) ps xs rs os w ≡ repair points faces s o (rooms_of ps xs rs os w)
  unfolding repair outcome
  is_refused r e = ap (λ c. outcome c (rooms_of ps xs rs os w) entries after) (e ∙ repair_is points faces s o (rooms_of ps xs rs os w))

  module _ (e : ok ≡ decided checks) where
    -- what an accepted call may start from
    is_accepted : RepairAccepted points faces o (length ps) (length xs) (length rs) (length os) (length w)
    is_accepted = repair_accepted points faces s o (length ps) (length xs) (length rs) (length os) (length w) (sym e)

    -- the passes may start from it
    pub mend_asks : MendAsks points faces ps xs os w
    mend_asks =
        let a = is_accepted in
        record { input = a.input; room_points = a.room_out_points; room_faces = a.room_out_faces; room_origins = a.room_origins; room_work = a.room_work }

    module _ {ps₁ : List Float} {xs₁ os₁ w₁ : List ℕ} {r : Mended} (g : MendGives points faces s o ps xs os w (lists ps₁ r.points xs₁ os₁ r.faces w₁) r) where
      -- the bounds of what is cleared
      pub sizes : Sizes P F r.points r.faces (length ps₁) (length xs₁) (length rs) (length os₁) (length w₁)
      unfolding work_room
      sizes =
          let a = is_accepted in
          let lp = g.only_points.long in
          let lf = g.only_faces.long in
          let lo = g.only_origins.long in
          let lw = g.only_work.long in
          record {
            few_points = a.input.faces_fine.points;
            few_faces = a.input.faces_fine.few;
            points_end = g.points_fit;
            faces_end = g.faces_fit;
            points_long = omega (arith, a.room_out_points);
            faces_long = omega (arith, a.room_out_faces);
            report_long = a.room_report;
            origins_long = omega (arith, a.room_origins);
            work_long = omega (arith, a.room_work);
          }

      -- the report room takes the counts
      pub report_asks : ReportAsks rs r.report
      report_asks = record { room = sizes.report_long; few = g.few }

      -- the points in front are the rules'
      points_front : take (3 * r.points) ps₁ ≡ flat_points m.points
      points_front =
          let z = sizes in
          sym (flat_points_back (take (3 * r.points) ps₁) (let l = length-take-le (3 * r.points) ps₁ (omega (arith, z)) in omega arith)) ∙ ap (λ t. flat_points t.points) g.state

      -- the faces and their origins stand in two rooms
      alike : Alike (standing xs₁ r.faces) (carried xs₁ os₁ r.faces)
      alike = let z = sizes in stands_alike xs₁ os₁ r.faces (omega (arith, z)) (omega (arith, z))

      -- and are the rules' too
      faces_front : take (3 * r.faces) xs₁ ≡ flat_faces m.faces
      faces_front =
          let z = sizes in
          sym (flat_faces_back (take (3 * r.faces) xs₁) (let l = length-take-le (3 * r.faces) xs₁ (omega (arith, z)) in omega arith))
          ∙ flat_same (standing xs₁ r.faces) (carried xs₁ os₁ r.faces) alike ∙ ap (λ t. flat_faces t.faces) g.state

      origins_front : take r.faces os₁ ≡ origins m.faces
      origins_front = let z = sizes in sym (carried_origins xs₁ os₁ r.faces (omega (arith, z)) (omega (arith, z))) ∙ ap (λ t. origins t.faces) g.state

      -- how many there are
      entries_are : 3 * r.points ∷ 3 * r.faces ∷ report_counts ∷ r.faces ∷ [] ≡ entries
      entries_are =
          let z = sizes in
          let p : r.points ≡ length m.points = sym (length_points_take ps₁ r.points (omega (arith, z))) ∙ ap (λ t. length t.points) g.state in
          let f : r.faces ≡ length m.faces = sym (length_faces_take xs₁ r.faces (omega (arith, z))) ∙ alike.long ∙ ap (λ t. length t.faces) g.state in
          ap₂ (λ i j. 3 * i ∷ 3 * j ∷ report_counts ∷ j ∷ []) p f

      -- the answers in their rooms, and the rest cleared: the rules' outcome
      pub is_done :
          {ps₂ : List Float} {xs₂ rs₂ os₂ w₂ : List ℕ}
          → OnlyOf nan (3 * r.points) (3 * (P + 3 * F) - 3 * r.points) ps₁ ps₂ → HoldsOf nan (3 * r.points) (3 * (P + 3 * F) - 3 * r.points) (λ i. zero64) ps₂
          → Only (3 * r.faces) (3 * F - 3 * r.faces) xs₁ xs₂ → Filled (3 * r.faces) (3 * F - 3 * r.faces) 0 xs₂
          → ReportGives rs r.report rs₂
          → Only r.faces (F - r.faces) os₁ os₂ → Filled r.faces (F - r.faces) 0 os₂
          → Only 0 (16 * P + 64 * F + 64) w₁ w₂ → Filled 0 (16 * P + 64 * F + 64) 0 w₂
          → outcome_of (Ok (record { points = 3 * r.points; faces = 3 * r.faces; origins = r.faces })) ps₂ xs₂ rs₂ os₂ w₂ ≡ repair points faces s o (rooms_of ps xs rs os w)
      unfolding repair outcome work_room
      is_done {ps₂} {xs₂} {rs₂} {os₂} {w₂} op hp of hf gr oo ho ow hw =
          let z = sizes in
          let a = is_accepted in
          let p : ps₂ ≡ after.out_points = filled_in a.room_out_points (omega (arith, z)) g.only_points points_front op hp in
          let f : xs₂ ≡ after.out_faces = filled_in a.room_out_faces (omega (arith, z)) g.only_faces faces_front of hf in
          let b : rs₂ ≡ after.report = filled_whole 0 a.room_report gr.only (gr.written ∙ ap (λ t. t.report) g.state) in
          let q : os₂ ≡ after.origins = filled_in a.room_origins (omega (arith, z)) g.only_origins origins_front oo ho in
          let c : w₂ ≡ after.work = cleared_is a.room_work (only_both g.only_work ow) hw in
          ap₂ (λ (k : List ℕ) (rooms : RepairRooms). record { answer = accepted k; rooms = rooms }) entries_are
          (λ i. record { out_points = p i; out_faces = f i; report = b i; origins = q i; work = c i })
          ∙ ap (λ c. outcome c (rooms_of ps xs rs os w) entries after) (e ∙ repair_is points faces s o (rooms_of ps xs rs os w))
