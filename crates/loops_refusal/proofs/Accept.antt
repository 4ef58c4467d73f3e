-- What is known of the input and the rooms of the loop call where 1 to 6 find nothing, and that 7 and 8 then decide. Assumes nothing.
use mathlib.Core.Path.{◌≡◌, refl, sym, ◌∙◌}
use mathlib.Core.List.{List, [], ◌∷◌, ◌++◌}
use Prim.Native.Nat.{ℕ, ◌*◌, ◌/◌}
use lib.ListN.{length}
use lib.Dec.{nltb→le}
use lib.Ieee.{Float}
use Rattle.rules.specs.Lists.{below}
use Rattle.rules.specs.Mesh.{faces_of}
use Rattle.rules.specs.Edges.{no7, no8}
use Rattle.rules.specs.Refusal.{Check, ok, no, decided}
use Rattle.rules.specs.Rooms.{work_room}
use Rattle.rules.specs.LoopsCall.{loops_rooms, LoopsRooms, loops_check}
use Rattle.rule_laws.proofs.Decided.{decided_all, decided_some, decided_none}
use Rattle.refuse.proofs.Accept.{input_from, rooms_fine}
use Rattle.loops_refusal.specs.Checks.{loops_list, LoopsAccepted}

-- where 1 to 6 find nothing the input is good and the rooms are long enough
pub loops_accepted : (points : List Float) (faces : List ℕ) (a b c : ℕ) → decided (loops_list points faces a b c) ≡ ok → LoopsAccepted points faces a b c
unfolding below loops_rooms
loops_accepted points faces a b c h =
    let P = length points / 3 in
    let F = length faces / 3 in
    let r = decided_all (loops_list points faces a b c) h in
    let g = rooms_fine (loops_rooms P F) (a ∷ b ∷ c ∷ []) r.1.1.1.1.1.1.0 in
    record {
      input = input_from points faces r.0 r.1.0 r.1.1.0 r.1.1.1.0 r.1.1.1.1.0 r.1.1.1.1.1.0;
      room_loop_vertices = nltb→le a (3 * F) g.0;
      room_loop_ends = nltb→le b (3 * F) g.1.0;
      room_work = nltb→le c (work_room P F) g.1.1.0;
    }

-- ---- the rules' checks are these up to 6, at the lengths of the rooms, and then 7 and 8
module _ (points : List Float) (faces : List ℕ) (r : LoopsRooms) where
  -- 1, 2, 4, 5 and 6
  abbrev up-to-six : List Check
  up-to-six = loops_list points faces (length r.loop_vertices) (length r.loop_ends) (length r.work)

  -- 7 and 8
  abbrev seven-and-eight : List Check
  seven-and-eight = no7 (length points / 3) (faces_of faces) ∷ no8 (length points / 3) (faces_of faces) ∷ []

  -- all of them
  loops_is : decided (up-to-six ++ seven-and-eight) ≡ loops_check points faces r
  unfolding loops_check
  loops_is = refl

  -- what is refused up to 6 is refused
  pub loops_refused : (n p : ℕ) → decided up-to-six ≡ no n p → loops_check points faces r ≡ no n p
  loops_refused n p e = sym loops_is ∙ decided_some up-to-six seven-and-eight n p e

  -- after that 7 and 8 decide
  pub loops_go_on : decided up-to-six ≡ ok → loops_check points faces r ≡ decided seven-and-eight
  loops_go_on e = sym loops_is ∙ decided_none up-to-six seven-and-eight e
