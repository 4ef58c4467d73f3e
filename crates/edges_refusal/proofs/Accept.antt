-- What is known of the input and the rooms of the edge call where 1 to 6 find nothing, and that 7 then decides. Assumes nothing.
use mathlib.Core.Path.{◌≡◌, refl, sym, ◌∙◌}
use mathlib.Core.List.{List, [], ◌∷◌, ◌++◌}
use Prim.Native.Nat.{ℕ, ◌*◌, ◌/◌}
use lib.ListN.{length}
use lib.Dec.{nltb→le}
use lib.Ieee.{Float}
use Rattle.rules.specs.Lists.{below}
use Rattle.rules.specs.Mesh.{faces_of}
use Rattle.rules.specs.Edges.{no7}
use Rattle.rules.specs.Refusal.{Check, ok, no, decided}
use Rattle.rules.specs.Rooms.{work_room}
use Rattle.rules.specs.EdgesCall.{edges_rooms, EdgesRooms, edges_check}
use Rattle.rule_laws.proofs.Decided.{decided_all, decided_some, decided_none}
use Rattle.refuse.proofs.Accept.{input_from, rooms_fine}
use Rattle.edges_refusal.specs.Checks.{edges_list, EdgesAccepted}

-- where 1 to 6 find nothing the input is good and the rooms are long enough
pub edges_accepted : (points : List Float) (faces : List ℕ) (a b c d : ℕ) → decided (edges_list points faces a b c d) ≡ ok → EdgesAccepted points faces a b c d
unfolding below edges_rooms
edges_accepted points faces a b c d h =
    let P = length points / 3 in
    let F = length faces / 3 in
    let r = decided_all (edges_list points faces a b c d) h in
    let g = rooms_fine (edges_rooms P F) (a ∷ b ∷ c ∷ d ∷ []) r.1.1.1.1.1.1.0 in
    record {
      input = input_from points faces r.0 r.1.0 r.1.1.0 r.1.1.1.0 r.1.1.1.1.0 r.1.1.1.1.1.0;
      room_edges = nltb→le a (6 * F) g.0;
      room_lengths = nltb→le b (3 * F) g.1.0;
      room_face_edges = nltb→le c (3 * F) g.1.1.0;
      room_work = nltb→le d (work_room P F) g.1.1.1.0;
    }

-- ---- the rules' checks are these up to 6, at the lengths of the rooms, and then 7
module _ (points : List Float) (faces : List ℕ) (r : EdgesRooms) where
  -- 1, 2, 4, 5 and 6
  abbrev up-to-six : List Check
  up-to-six = edges_list points faces (length r.edges) (length r.lengths) (length r.face_edges) (length r.work)

  -- 7
  abbrev seven : List Check
  seven = no7 (length points / 3) (faces_of faces) ∷ []

  -- all of them
  edges_is : decided (up-to-six ++ seven) ≡ edges_check points faces r
  unfolding edges_check
  edges_is = refl

  -- what is refused up to 6 is refused
  pub edges_refused : (n p : ℕ) → decided up-to-six ≡ no n p → edges_check points faces r ≡ no n p
  edges_refused n p e = sym edges_is ∙ decided_some up-to-six seven n p e

  -- after that 7 decides
  pub edges_go_on : decided up-to-six ≡ ok → edges_check points faces r ≡ decided seven
  edges_go_on e = sym edges_is ∙ decided_none up-to-six seven e
