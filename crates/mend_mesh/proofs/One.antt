-- One mesh in its parts of the rooms: what its repair leaves there is what it contributes. Assumes nothing.
use mathlib.Core.Path.{◌≡◌, refl, sym, ap, subst, ◌∙◌}
use mathlib.Core.List.{List, [], ◌∷◌, ◌++◌}
use Prim.Native.Nat.{ℕ, ◌+◌, ◌-◌, ◌/◌, ◌^◌, ◌≤◌, ◌<◌}
use native.Mathlib.Omega.{arith}
use lib.Ieee.{Float}
use lib.ListN.{length, get_or, take, drop, replicate, length-append, length-drop, length-replicate}
use lib.Seq.{get_or-drop, get_or-append-add}
use Rattle.rows.specs.Region.{Only, Out, Out.below, Out.above}
use Rattle.rows.proofs.Regions.{only_none}
use Rattle.rules.specs.State.{report_counts}
use Rattle.rules.specs.Refusal.{Check, ok, no}
use Rattle.rules.specs.Rooms.{work_room, filled, cleared, Answer, accepted, refused, outcome}
use Rattle.rules.specs.RepairCall.{RepairRooms, repair_check, repair}
use Rattle.rules.specs.PanelCall.{one_call, shared, its_points, its_faces, its_counts, its_origins, four}
use Rattle.rule_laws.proofs.Called.{outcome_ok}
use Rattle.std.specs.Prelude.{Ok, Err}
use Rattle.refuse.specs.Verdicts.{number_of, place_of}
use Rattle.refuse.specs.declared.Refusal.{Refusal}
use Rattle.repair.specs.declared.Repaired.{Repaired}
use Rattle.repair.specs.Answers.{rooms_of, outcome_of}
use Rattle.repair_refusal.specs.Checks.{RepairAccepted}
use Rattle.repair_refusal.proofs.Accept.{repair_is, repair_accepted}
use Rattle.place_laws.proofs.Outcomes.{repair_place}
use Rattle.panel_laws.proofs.Alone.{LongEnough, same_answer, same_points, same_faces, same_counts, same_origins, one_shares, Measured, one_measured}
use Rattle.mend_mesh.specs.Meshes.{OneAsks, OneGives}

-- a cleared room is changed only as far as it is cleared
pub cleared_only : (n : ℕ) (w : List ℕ) → n ≤ length w → Only 0 n w (cleared n w)
unfolding cleared filled
cleared_only n w h =
    record { long = length-append zeros (drop n w) ∙ omega (arith, length-replicate {A = ℕ} (n - 0) 0, length-drop n w); same = same }
  where
    zeros : List ℕ
    zeros = replicate (n - 0) 0

    same : (j : ℕ) → Out 0 n j → get_or (zeros ++ drop n w) j 0 ≡ get_or w j 0
    same j (below l) = absurd (omega arith)
    same j (above l) =
        let e : j ≡ length zeros + (j - n) = omega (arith, length-replicate {A = ℕ} (n - 0) 0) in
        ap (λ k. get_or (zeros ++ drop n w) k 0) e ∙ get_or-append-add zeros (drop n w) (j - n) 0 ∙ get_or-drop n w (j - n) 0 ∙ ap (λ k. get_or w k 0) (omega arith)

-- the work room of an accepted repair
work_left :
    (points : List Float) (faces : List ℕ) (s : Float) (o : ℕ) (r : RepairRooms) (n : List ℕ)
    → (repair points faces s o r).answer ≡ accepted n → (repair points faces s o r).rooms.work ≡ cleared (work_room (length points / 3) (length faces / 3)) r.work
unfolding repair outcome
work_left points faces s o r n e = rw (outcome_ok (repair_check points faces s o r) r _ _ n e).0 refl

-- a refusal changes no room
refused_kept : {R : Type 0} (c : Check) (given : R) (n : List ℕ) (after : R) (m p : ℕ) → (outcome c given n after).answer ≡ refused m p → (outcome c given n after).rooms ≡ given
unfolding outcome
refused_kept ok given n after m p e = absurd (subst is_accepted e tt)
  where
    is_accepted : Answer → Type 0
    is_accepted (accepted k) = Unit {0}
    is_accepted (refused k q) = ⊥
refused_kept (no k q) given n after m p e = refl

-- and of a refused one
work_kept :
    (points : List Float) (faces : List ℕ) (s : Float) (o : ℕ) (r : RepairRooms) (n p : ℕ) → (repair points faces s o r).answer ≡ refused n p
    → (repair points faces s o r).rooms.work ≡ r.work
unfolding repair
work_kept points faces s o r n p e = ap (λ q. q.work) (refused_kept (repair_check points faces s o r) r _ _ n p e)

module _ (points : List Float) (faces : List ℕ) (s : Float) (o : ℕ) (ps : List Float) (xs rs os fours w : List ℕ)
    (a : OneAsks (length points / 3) (length faces / 3) ps xs rs os fours w) where
  -- the parts are long enough
  long : LongEnough (length points / 3) (length faces / 3) (rooms_of ps xs rs os w)
  long = record { room_points = a.room_points; room_faces = a.room_faces; room_report = a.room_report; room_origins = a.room_origins; room_work = a.room_work }

  module _ {ps' : List Float} {xs' rs' os' w' : List ℕ} where
    -- ---- mended

    module _ {d : Repaired} (e : outcome_of (Ok d) ps' xs' rs' os' w' ≡ repair points faces s o (rooms_of ps xs rs os w)) where
      -- the answer of its own call
      answered : (one_call s o points faces).answer ≡ accepted (d.points ∷ d.faces ∷ report_counts ∷ d.origins ∷ [])
      answered = sym (ap (λ q. q.answer) e ∙ same_answer points faces s o (rooms_of ps xs rs os w) long)

      -- how long its parts are
      measured : Measured d.points d.faces report_counts d.origins (one_call s o points faces)
      measured = one_measured points faces s o d.points d.faces report_counts d.origins answered

      -- P and F are not too large
      inside : RepairAccepted points faces o (length ps) (length xs) (length rs) (length os) (length w)
      unfolding repair
      inside =
          repair_accepted points faces s o (length ps) (length xs) (length rs) (length os) (length w)
          (repair_is points faces s o (rooms_of ps xs rs os w)
          ∙ (outcome_ok (repair_check points faces s o (rooms_of ps xs rs os w)) _ _ _ _ (sym (ap (λ q. q.answer) e))).0)

      -- its numbers of points and faces have 32 bits
      pub few_points : d.points / 3 < 2 ^ 32
      few_points = let m = measured in let q = one_shares points faces s o in omega (arith, m.points_long, q.points_fit, inside.input.faces_fine.points, inside.input.faces_fine.few)

      pub few_faces : d.faces / 3 < 2 ^ 32
      few_faces = let m = measured in let q = one_shares points faces s o in omega (arith, m.faces_long, q.faces_fit, inside.input.faces_fine.few)

      -- it contributes what stands there
      pub mended :
          {fours' : List ℕ} → take 4 fours' ≡ 0 ∷ 0 ∷ d.points / 3 ∷ d.faces / 3 ∷ []
          → OneGives (one_call s o points faces) (length points / 3) (length faces / 3) w ps' xs' rs' os' fours' w'
          (record { points = d.points; faces = d.faces; counts = report_counts; origins = d.origins })
      unfolding its_points its_faces its_counts its_origins shared four
      mended t =
          let m = measured in
          let r = rooms_of ps xs rs os w in
          record {
            points = record { long = sym m.points_long; front = ap its_points e ∙ same_points points faces s o r long };
            faces = record { long = sym m.faces_long; front = ap its_faces e ∙ same_faces points faces s o r long };
            counts = record { long = sym m.counts_long; front = ap its_counts e ∙ same_counts points faces s o r long };
            origins = record { long = sym m.origins_long; front = ap its_origins e ∙ same_origins points faces s o r long };
            fours = t ∙ ap four (sym answered);
            only_work =
                rw (ap (λ q. q.rooms.work) e ∙ work_left points faces s o r _ (sym (ap (λ q. q.answer) e))) (cleared_only (work_room (length points / 3) (length faces / 3)) w a.room_work);
          }

    -- ---- refused

    module _ (f : Refusal) (e : outcome_of (Err f) ps' xs' rs' os' w' ≡ repair points faces s o (rooms_of ps xs rs os w)) where
      -- its place has 32 bits
      pub near : place_of f < 2 ^ 32
      near = repair_place points faces s o (rooms_of ps xs rs os w) e

      -- it contributes nothing but its number and place
      pub turned_away :
          {fours' : List ℕ} → take 4 fours' ≡ number_of f ∷ place_of f ∷ 0 ∷ 0 ∷ []
          → OneGives (one_call s o points faces) (length points / 3) (length faces / 3) w ps' xs' rs' os' fours' w'
          (record { points = 0; faces = 0; counts = 0; origins = 0 })
      unfolding its_points its_faces its_counts its_origins shared four
      turned_away t =
          let r = rooms_of ps xs rs os w in
          let a : [] ≡ its_points (one_call s o points faces) = ap its_points e ∙ same_points points faces s o r long in
          let b : [] ≡ its_faces (one_call s o points faces) = ap its_faces e ∙ same_faces points faces s o r long in
          let c : [] ≡ its_counts (one_call s o points faces) = ap its_counts e ∙ same_counts points faces s o r long in
          let d : [] ≡ its_origins (one_call s o points faces) = ap its_origins e ∙ same_origins points faces s o r long in
          record {
            points = record { long = ap length a; front = a };
            faces = record { long = ap length b; front = b };
            counts = record { long = ap length c; front = c };
            origins = record { long = ap length d; front = d };
            fours = t ∙ ap four (ap (λ q. q.answer) e ∙ same_answer points faces s o r long);
            only_work = rw (ap (λ q. q.rooms.work) e ∙ work_kept points faces s o r (number_of f) (place_of f) (sym (ap (λ q. q.answer) e))) (only_none 0 (work_room (length points / 3) (length faces / 3)) w);
          }
