-- The agreement, from what accepted calls tell: the bytes told at the front of the text room are the list, and applying them is as `InCalls` says. Assumes nothing.
use mathlib.Core.Path.{◌≡◌, sym, ap, ap₂, ◌∙◌}
use mathlib.Core.List.{List, [], ◌∷◌}
use Prim.Native.Nat.{ℕ, ◌*◌, ◌/◌}
use lib.ListN.{length, get_or, take}
use lib.Ieee.{Float}
use Rattle.rules.specs.Mesh.{points_of, faces_of}
use Rattle.rules.specs.State.{State}
use Rattle.rules.specs.Refusal.{ok, no6}
use Rattle.rules.specs.Repair.{repaired}
use Rattle.rules.specs.Rooms.{accepted, Outcome}
use Rattle.rules.specs.Mending.{list_text}
use Rattle.rules.specs.ListCall.{ListRooms, list_check, write_list}
use Rattle.rules.specs.ApplyCall.{ApplyRooms, apply_rooms, apply_list}
use Rattle.rules.specs.RepairCall.{RepairRooms, repair_check, repair}
use Rattle.rule_laws.proofs.Called.{outcome_ok}
use Rattle.mending_laws.proofs.InCalls as agreed

-- rooms that are not too short for applying a list
abbrev pub ApplyEnough : List Float → List ℕ → ApplyRooms → Type 0
ApplyEnough points faces q =
    no6 (apply_rooms (length points / 3) (length faces / 3)) (length q.out_points ∷ length q.out_faces ∷ length q.work ∷ []) ≡ ok

module _ (points : List Float) (faces : List ℕ) (s : Float) (options : ℕ) (l : ListRooms) (n : ℕ) (a : (write_list points faces s options l).answer ≡ accepted (n ∷ [])) where
  -- the list was not refused, and its length was told
  wrote : (list_check points faces s options l ≡ ok) × (length (list_text s options (points_of points) (faces_of faces)) ≡ n)
  unfolding write_list
  wrote = let o = outcome_ok (list_check points faces s options l) l _ _ (n ∷ []) a in (o.0, ap (λ k. get_or k 0 0) o.1)

  module _ (text : List ℕ) (left : text ≡ (write_list points faces s options l).rooms.text) (q : ApplyRooms) (enough : ApplyEnough points faces q) where
    -- the mesh that a repair of the same input leaves
    abbrev mended : State
    mended = repaired s options (points_of points) (faces_of faces)

    -- what applying makes of the bytes that were told
    abbrev applied-to : Outcome ApplyRooms
    applied-to = apply_list points faces (take n text) q

    -- they are those of the agreement
    as-agreed :
        applied-to
        ≡ apply_list points faces (take (length (list_text s options (points_of points) (faces_of faces))) (write_list points faces s options l).rooms.text) q
    as-agreed = ap₂ (λ (k : ℕ) (t : List ℕ). apply_list points faces (take k t) q) (sym wrote.1) left

    -- they are accepted, and the mesh is as large as the repaired one
    pub applies : applied-to.answer ≡ accepted (3 * length mended.points ∷ 3 * length mended.faces ∷ [])
    applies = ap (λ (o : Outcome ApplyRooms). o.answer) as-agreed ∙ agreed.apply_answer points faces s options l wrote.0 q enough

    module _ (m : RepairRooms) (p f c k : ℕ) (b : (repair points faces s options m).answer ≡ accepted (p ∷ f ∷ c ∷ k ∷ [])) where
      -- the repair was not refused, and told how large its mesh is
      repaired_so : (repair_check points faces s options m ≡ ok) × (3 * length mended.points ≡ p) × (3 * length mended.faces ≡ f)
      unfolding repair
      repaired_so =
          let o = outcome_ok (repair_check points faces s options m) m _ _ (p ∷ f ∷ c ∷ k ∷ []) b in
          (o.0, ap (λ t. get_or t 0 0) o.1, ap (λ t. get_or t 1 0) o.1)

      -- applying tells the repair's numbers
      pub same_numbers : applied-to.answer ≡ accepted (p ∷ f ∷ [])
      same_numbers = applies ∙ ap₂ (λ (x y : ℕ). accepted (x ∷ y ∷ [])) repaired_so.1 repaired_so.2

      -- of one points room both leave the same
      pub same_points : m.out_points ≡ q.out_points → applied-to.rooms.out_points ≡ (repair points faces s options m).rooms.out_points
      same_points e =
          ap (λ (o : Outcome ApplyRooms). o.rooms.out_points) as-agreed ∙ agreed.same_points_room points faces s options l wrote.0 q enough m repaired_so.0 e

      -- and of one faces room
      pub same_faces : m.out_faces ≡ q.out_faces → applied-to.rooms.out_faces ≡ (repair points faces s options m).rooms.out_faces
      same_faces e =
          ap (λ (o : Outcome ApplyRooms). o.rooms.out_faces) as-agreed ∙ agreed.same_faces_room points faces s options l wrote.0 q enough m repaired_so.0 e
