-- The agreement of our own calls: the text that one left in its room, applied by the other, leaves the points and faces that the repair leaves. Assumes nothing.
use Rattle.std.specs.Prelude.{Result, Ok, Err}
use Rattle.refuse.specs.declared.Refusal.{Refusal}
use Rattle.refuse.proofs.Refusals.{refusal_of, refusal_is}
use mathlib.Core.Path.{◌≡◌, refl, sym, ap, ◌∙◌}
use mathlib.Core.Logic.{⊎_elim}
use mathlib.Core.List.{List, [], ◌∷◌}
use Prim.Native.Nat.{ℕ, ◌*◌, ◌/◌}
use lib.ListN.{length, get_or, take}
use lib.Ieee.{Float}
use Rattle.rules.specs.Mesh.{points_of, faces_of}
use Rattle.rules.specs.Repair.{repaired}
use Rattle.rules.specs.Rooms.{Answer, accepted, refused, Outcome}
use Rattle.rules.specs.ListCall.{ListRooms, write_list}
use Rattle.rules.specs.ApplyCall.{ApplyRooms, apply_list}
use Rattle.rules.specs.RepairCall.{RepairRooms, repair}
use Rattle.list_room.specs.Parts.{joined}
use Rattle.write_list.specs.Called as writing
use Rattle.apply_list.specs.Answers as applying
use Rattle.apply_list.specs.declared.Applied.{Applied}
use Rattle.repair.specs.Answers as mending
use Rattle.shell.proofs.ListPlaces.{parted_or}
use Rattle.list_applied.proofs.Outcomes.{ApplyEnough, applies, same_numbers, same_points, same_faces}

-- what applying gave back, from the rules' answer
abbrev applied_of : Answer → Result Applied Refusal
applied_of (accepted ns) = Ok (record { points = get_or ns 0 0; faces = get_or ns 1 0 })
applied_of (refused n p) = Err (refusal_of n p)

-- nothing of it is lost
applied_is : (r : Result Applied Refusal) → applied_of (applying.answer_of r) ≡ r
applied_is (Ok r) = refl
applied_is (Err e) = ap Err (refusal_is e)

module _ (points : List Float) (faces : List ℕ) (s : Float) (options : ℕ) (text corners origins rest text' corners' origins' rest' : List ℕ) (n : ℕ)
    (g : writing.ListGives points faces s options text corners origins rest text' corners' origins' rest' (Ok n)) where
  -- a text that was written is the rules', of one work room
  one_room : (l : ListRooms) × ((write_list points faces s options l).answer ≡ accepted (n ∷ [])) × (text' ≡ (write_list points faces s options l).rooms.text)
  one_room =
      ⊎_elim
      (λ h. (writing.rooms_of text (joined corners origins rest), ap (λ (o : Outcome ListRooms). o.answer) (sym (g.parted h)), ap (λ (o : Outcome ListRooms). o.rooms.text) (g.parted h)))
      (λ h. (writing.rooms_of text [], ap (λ (o : Outcome ListRooms). o.answer) (sym (g.apart h)), ap (λ (o : Outcome ListRooms). o.rooms.text) (g.apart h)))
      (parted_or (length faces / 3) (length corners) (length origins) (length rest))

  module _ (a a' : List Float) (b b' v v' : List ℕ) (r : Result Applied Refusal) (enough : ApplyEnough points faces (applying.rooms_of a b v))
      (q : applying.outcome_of r a' b' v' ≡ apply_list points faces (take n text') (applying.rooms_of a b v)) where
    -- a list that was written is not refused, and the mesh is as large as the repaired one
    pub listed_applies :
        applying.answer_of r
        ≡ accepted (3 * length (repaired s options (points_of points) (faces_of faces)).points ∷ 3 * length (repaired s options (points_of points) (faces_of faces)).faces ∷ [])
    listed_applies =
        ap (λ (o : Outcome ApplyRooms). o.answer) q ∙ applies points faces s options one_room.0 n one_room.1 text' one_room.2 (applying.rooms_of a b v) enough

    module _ (a'' : List Float) (b'' c c'' d d'' x x'' : List ℕ) (p f k : ℕ)
        (m : mending.outcome_of (Ok (record { points = p; faces = f; origins = k })) a'' b'' c'' d'' x'' ≡ repair points faces s options (mending.rooms_of a b c d x)) where
      -- the repair's answer
      told : (repair points faces s options (mending.rooms_of a b c d x)).answer ≡ mending.answer_of (Ok (record { points = p; faces = f; origins = k }))
      told = ap (λ (o : Outcome RepairRooms). o.answer) (sym m)

      -- applying tells as many entries of points and of faces as the repair
      pub applied_numbers : r ≡ Ok (record { points = p; faces = f })
      applied_numbers =
          sym (applied_is r)
          ∙ ap applied_of
          (ap (λ (o : Outcome ApplyRooms). o.answer) q
          ∙ same_numbers points faces s options one_room.0 n one_room.1 text' one_room.2 (applying.rooms_of a b v) enough (mending.rooms_of a b c d x) p f _ k told)

      -- the points room holds what the repair leaves there, bit by bit
      pub applied_points : a' ≡ a''
      applied_points =
          ap (λ (o : Outcome ApplyRooms). o.rooms.out_points) q
          ∙ same_points points faces s options one_room.0 n one_room.1 text' one_room.2 (applying.rooms_of a b v) enough (mending.rooms_of a b c d x) p f _ k told refl
          ∙ sym (ap (λ (o : Outcome RepairRooms). o.rooms.out_points) m)

      -- and so does the faces room
      pub applied_faces : b' ≡ b''
      applied_faces =
          ap (λ (o : Outcome ApplyRooms). o.rooms.out_faces) q
          ∙ same_faces points faces s options one_room.0 n one_room.1 text' one_room.2 (applying.rooms_of a b v) enough (mending.rooms_of a b c d x) p f _ k told refl
          ∙ sym (ap (λ (o : Outcome RepairRooms). o.rooms.out_faces) m)
