-- The agreement in the words of the calls: a list that was written, applied to the same input, leaves in its rooms what a repair leaves in its own. Assumes
-- nothing.
use mathlib.Core.Path.{◌≡◌, refl, sym, ap, ◌∙◌, subst}
use mathlib.Core.List.{List, [], ◌∷◌}
use Prim.Native.Nat.{ℕ, suc, ◌+◌, ◌*◌, ◌/◌, ◌≤◌, ◌<◌}
use native.Mathlib.Omega.{arith}
use lib.Dec.{leb, leb→le}
use lib.Ieee.{Float}
use lib.ListN.{length, take}
use Rattle.rules.specs.Mesh.{points_of, faces_from, faces_of, flat_points, flat_faces, zero64}
use Rattle.rules.specs.State.{State}
use Rattle.rules.specs.Refusal.{Check, ok, no2, no5, no6, most_points, most_faces}
use Rattle.rules.specs.Rooms.{accepted, Outcome, outcome, filled, cleared, work_room}
use Rattle.rules.specs.Repair.{repaired}
use Rattle.rules.specs.Mending.{list_text}
use Rattle.rules.specs.Calls.{RepairRooms, repair_check, repair, ListRooms, list_check, write_list, ApplyRooms, apply_rooms, apply_check, apply_list}
use Rattle.rule_laws.proofs.Rising.{All, Up}
use Rattle.rule_laws.proofs.Decided.{decided_all, decided_ok, unless_ok}
use Rattle.rule_laws.proofs.Flat.{length_points, length_faces}
use Rattle.rule_laws.proofs.Accepted.{no5_inside}
use Rattle.rule_laws.proofs.Once.{Inside}
use Rattle.rule_laws.proofs.Called.{filled_front}
use Rattle.rule_laws.proofs.Origins.{origins}
use Rattle.mending_laws.proofs.Rise.{from_rise}
use Rattle.mending_laws.proofs.Agreed.{none_bad, same_points, same_faces}
use Rattle.mending_laws.proofs.Bounded.{text_bounded}

-- an accepted call
outcome_whole : {R : Type 0} (c : Check) (given : R) (entries : List ℕ) (after : R) → c ≡ ok → outcome c given entries after ≡ record { answer = accepted entries; rooms = after }
unfolding outcome
outcome_whole c given entries after e = ap (λ d. outcome d given entries after) e

-- each face of a call's list is its own origin, so origins are below F
from_low : (k : ℕ) (xs : List ℕ) → All (λ f. f.origin < k + length (faces_from k xs)) (faces_from k xs)
unfolding faces_from
from_low k [] = tt
from_low k (a ∷ []) = tt
from_low k (a ∷ b ∷ []) = tt
from_low k (a ∷ b ∷ c ∷ xs) =
    let e : k + suc (length (faces_from (suc k) xs)) ≡ suc k + length (faces_from (suc k) xs) = omega arith in
    (omega arith, subst (λ n. All (λ f. f.origin < n) (faces_from (suc k) xs)) (sym e) (from_low (suc k) xs))

-- what 2 and 5 say of an input that they do not refuse
pub record Input (points : List Float) (faces : List ℕ) : Type 0 where
  pub few_points : length (points_of points) ≤ 4194304
  pub few_faces : length (faces_of faces) ≤ 1048576
  pub inside : Inside (length (points_of points)) (faces_of faces)
  pub rise : Up 0 (origins (faces_of faces))
  pub names : All (λ f. f.origin < length (faces_of faces)) (faces_of faces)

-- it is so
pub input_of :
    (points : List Float) (faces : List ℕ) → no2 0 (length points / 3) most_points ≡ ok → no2 1 (length faces / 3) most_faces ≡ ok → no5 (length points / 3) (faces_of faces) ≡ ok
    → Input points faces
unfolding no2
input_of points faces p f c =
    record {
      few_points = omega (arith, length_points points, leb→le (length points / 3) 4194304 (unless_ok 2 0 (leb (length points / 3) 4194304) p));
      few_faces = omega (arith, length_faces faces, leb→le (length faces / 3) 1048576 (unless_ok 2 1 (leb (length faces / 3) 1048576) f));
      inside = rw (length_points points) (no5_inside (length points / 3) (faces_of faces) c);
      rise = from_rise 0 faces;
      names =
          let e : 0 + length (faces_of faces) ≡ length (faces_of faces) = omega arith in
          subst (λ n. All (λ f. f.origin < n) (faces_of faces)) e (from_low 0 faces);
    }

module _ (points : List Float) (faces : List ℕ) (s : Float) (options : ℕ) (r : ListRooms) (ac : list_check points faces s options r ≡ ok) where
  -- the text
  abbrev text : List ℕ
  text = list_text s options (points_of points) (faces_of faces)

  -- the mesh that a repair of the same input leaves
  abbrev mended : State
  mended = repaired s options (points_of points) (faces_of faces)

  -- the input
  input : Input points faces
  unfolding list_check
  input = let c = decided_all _ ac in input_of points faces c.1.1.0 c.1.1.1.0 c.1.1.1.1.1.1.1.0

  -- the text is at most 10P + 118F bytes long
  pub text_short : length text ≤ 10 * (length points / 3) + 118 * (length faces / 3)
  text_short =
      let i = input in
      omega (arith, text_bounded s options (points_of points) (faces_of faces) i.inside i.rise i.names i.few_points i.few_faces, length_points points, length_faces faces)

  -- the call is accepted
  list_is :
      write_list points faces s options r
      ≡ record {
        answer = accepted (length text ∷ []);
        rooms = record { text = filled 0 (length text) text r.text; work = cleared (work_room (length points / 3) (length faces / 3)) r.work };
      }
  unfolding write_list
  list_is = outcome_whole _ _ _ _ ac

  -- it tells the text's length
  pub list_answer : (write_list points faces s options r).answer ≡ accepted (length text ∷ [])
  list_answer = ap (λ o. o.answer) list_is

  -- and the text stands at the front of its room
  pub list_front : take (length text) (write_list points faces s options r).rooms.text ≡ text
  list_front = ap (λ o. take (length text) o.rooms.text) list_is ∙ filled_front 0 (length text) (length text) text r.text refl

  module _ (q : ApplyRooms) (room : no6 (apply_rooms (length points / 3) (length faces / 3)) (length q.out_points ∷ length q.out_faces ∷ length q.work ∷ []) ≡ ok) where
    -- the list is not refused
    pub apply_accepted : apply_check points faces text q ≡ ok
    unfolding apply_check list_check
    apply_accepted =
        let c = decided_all _ ac in
        let i = input in
        decided_ok _
        (c.0, (c.1.0, (c.1.1.0, (c.1.1.1.0, (c.1.1.1.1.1.1.0, (c.1.1.1.1.1.1.1.0, (none_bad s options (points_of points) (faces_of faces) i.inside i.rise i.names i.few_points i.few_faces, (room, tt))))))))

    -- the text is not refused, and the rooms hold the mended mesh
    apply_is :
        apply_list points faces text q
        ≡ record {
          answer = accepted (3 * length mended.points ∷ 3 * length mended.faces ∷ []);
          rooms = record {
            out_points = filled zero64 (3 * (length points / 3 + 3 * (length faces / 3))) (flat_points mended.points) q.out_points;
            out_faces = filled 0 (3 * (length faces / 3)) (flat_faces mended.faces) q.out_faces;
            work = cleared (work_room (length points / 3) (length faces / 3)) q.work;
          };
        }
    unfolding apply_list
    apply_is =
        let i = input in
        let ep = same_points s options (points_of points) (faces_of faces) i.inside i.rise i.names i.few_points i.few_faces in
        let ef = same_faces s options (points_of points) (faces_of faces) i.inside i.rise i.names i.few_points i.few_faces in
        outcome_whole _ _ _ _ apply_accepted
        ∙ (λ k.
        record {
          answer = accepted (3 * length (ep k) ∷ 3 * length (ef k) ∷ []);
          rooms = record {
            out_points = filled zero64 (3 * (length points / 3 + 3 * (length faces / 3))) (flat_points (ep k)) q.out_points;
            out_faces = filled 0 (3 * (length faces / 3)) (flat_faces (ef k)) q.out_faces;
            work = cleared (work_room (length points / 3) (length faces / 3)) q.work;
          };
        })

    -- what the second call makes of the bytes that the first one left
    abbrev applied-to : Outcome ApplyRooms
    applied-to = apply_list points faces (take (length text) (write_list points faces s options r).rooms.text) q

    -- it accepts them, and tells the size of the repaired mesh
    pub apply_answer : applied-to.answer ≡ accepted (3 * length mended.points ∷ 3 * length mended.faces ∷ [])
    apply_answer = ap (λ t. (apply_list points faces t q).answer) list_front ∙ ap (λ o. o.answer) apply_is

    -- if a repair of the same input was lent the same points room, both leave the same there
    pub same_points_room : (p : RepairRooms) → repair_check points faces s options p ≡ ok → p.out_points ≡ q.out_points → applied-to.rooms.out_points ≡ (repair points faces s options p).rooms.out_points
    unfolding repair
    same_points_room p h e =
        ap (λ t. (apply_list points faces t q).rooms.out_points) list_front ∙ ap (λ o. o.rooms.out_points) apply_is
        ∙ ap (filled zero64 (3 * (length points / 3 + 3 * (length faces / 3))) (flat_points mended.points)) (sym e)
        ∙ sym (ap (λ (o : Outcome RepairRooms). o.rooms.out_points) (outcome_whole _ _ _ _ h))

    -- and the same of the faces room
    pub same_faces_room : (p : RepairRooms) → repair_check points faces s options p ≡ ok → p.out_faces ≡ q.out_faces → applied-to.rooms.out_faces ≡ (repair points faces s options p).rooms.out_faces
    unfolding repair
    same_faces_room p h e =
        ap (λ t. (apply_list points faces t q).rooms.out_faces) list_front ∙ ap (λ o. o.rooms.out_faces) apply_is
        ∙ ap (filled 0 (3 * (length faces / 3)) (flat_faces mended.faces)) (sym e)
        ∙ sym (ap (λ (o : Outcome RepairRooms). o.rooms.out_faces) (outcome_whole _ _ _ _ h))
