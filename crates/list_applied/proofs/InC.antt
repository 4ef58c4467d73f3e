-- The agreement of what C gets, where the numbers are 0: the bytes that `shell_list_in_parts` told, lent to `shell_apply`, leave the points and faces that
-- `shell_repair` leaves. Assumes nothing.
use mathlib.Core.Path.{◌≡◌, sym, ap, ◌∙◌}
use mathlib.Core.Logic.{⊎_elim}
use mathlib.Core.List.{List, [], ◌∷◌}
use Prim.Native.Nat.{ℕ, ◌/◌}
use lib.ListN.{length, get_or, take}
use lib.Ieee.{Float}
use Rattle.rules.specs.Rooms.{accepted}
use Rattle.rules.specs.ListCall.{ListRooms, write_list}
use Rattle.rules.specs.ApplyCall.{ApplyRooms, apply_list}
use Rattle.rules.specs.RepairCall.{RepairRooms, repair}
use Rattle.list_room.specs.Parts.{joined}
use Rattle.write_list.specs.Called.{rooms_of}
use Rattle.shell.specs.Told.{Given, told}
use Rattle.shell.specs.Listed.{ListTold}
use Rattle.shell.specs.declared.ShellRepaired.{ShellRepaired}
use Rattle.shell.specs.declared.ShellApplied.{ShellApplied}
use Rattle.shell.specs.declared.ShellList.{ShellList}
use Rattle.shell.proofs.ListPlaces.{parted_or}
use Rattle.one_answer.proofs.Numbered.{repair_numbered, list_numbered}
use Rattle.demanded_in_c.proofs.Zero.{zero_accepted, accepted_zero}
use Rattle.list_applied.proofs.Outcomes.{ApplyEnough, applies, same_numbers, same_points, same_faces}

module _ (points : List Float) (faces : List ℕ) (s : Float) (options : ℕ) (text corners origins rest text' corners' origins' rest' : List ℕ) (l : ShellList)
    (g : ListTold points faces s options text corners origins rest text' corners' origins' rest' l.number l.place l.bytes) (zero : l.number ≡ 0) where
  -- a text that was written is the rules', of one work room
  one_room : (w : ListRooms) × ((write_list points faces s options w).answer ≡ accepted (l.bytes ∷ [])) × (text' ≡ (write_list points faces s options w).rooms.text)
  one_room =
      ⊎_elim
      (λ h. (rooms_of text (joined corners origins rest), zero_accepted (list_numbered points faces s options _) (g.parted h) zero, ap (λ (w : ListRooms). w.text) (g.parted h).after))
      (λ h. (rooms_of text [], zero_accepted (list_numbered points faces s options _) (g.apart h) zero, ap (λ (w : ListRooms). w.text) (g.apart h).after))
      (parted_or (length faces / 3) (length corners) (length origins) (length rest))

  module _ (before after : ApplyRooms) (r : ShellApplied) (enough : ApplyEnough points faces before)
      (q : Given r.number r.place (r.points ∷ r.faces ∷ []) after (apply_list points faces (take l.bytes text') before)) where
    -- `shell_apply` gives number 0
    pub shell_listed_applies : r.number ≡ 0
    shell_listed_applies = accepted_zero (applies points faces s options one_room.0 l.bytes one_room.1 text' one_room.2 before enough) q

    module _ (room room' : RepairRooms) (t : ShellRepaired)
        (m : Given t.number t.place (t.points ∷ t.faces ∷ t.counts ∷ t.origins ∷ []) room' (repair points faces s options room)) (fine : t.number ≡ 0) where
      -- the repair is accepted
      taken : (repair points faces s options room).answer ≡ accepted (t.points ∷ t.faces ∷ t.counts ∷ t.origins ∷ [])
      taken = zero_accepted (repair_numbered points faces s options room) m fine

      -- both tell as many entries of points and of faces
      pub shell_applied_numbers : (r.points ≡ t.points) × (r.faces ≡ t.faces)
      shell_applied_numbers =
          let e =
          q.answer
          ∙ ap (told 2)
          (same_numbers points faces s options one_room.0 l.bytes one_room.1 text' one_room.2 before enough room t.points t.faces t.counts t.origins taken) in
          (ap (λ k. get_or k 2 0) e, ap (λ k. get_or k 3 0) e)

      -- of one points room both leave the same, bit by bit
      pub shell_applied_points : room.out_points ≡ before.out_points → after.out_points ≡ room'.out_points
      shell_applied_points e =
          ap (λ (w : ApplyRooms). w.out_points) q.after
          ∙ same_points points faces s options one_room.0 l.bytes one_room.1 text' one_room.2 before enough room t.points t.faces t.counts t.origins taken e
          ∙ sym (ap (λ (w : RepairRooms). w.out_points) m.after)

      -- and of one faces room
      pub shell_applied_faces : room.out_faces ≡ before.out_faces → after.out_faces ≡ room'.out_faces
      shell_applied_faces e =
          ap (λ (w : ApplyRooms). w.out_faces) q.after
          ∙ same_faces points faces s options one_room.0 l.bytes one_room.1 text' one_room.2 before enough room t.points t.faces t.counts t.origins taken e
          ∙ sym (ap (λ (w : RepairRooms). w.out_faces) m.after)
