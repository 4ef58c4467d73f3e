-- What the listing of a loop call asks and gives, over a flat list of faces xs and P points. Definitions only.
use Rattle.std.specs.Prelude.{◌≡◌, true, List, ℕ, ◌*◌, ◌/◌, ◌≤◌, length}
use Rattle.rules.specs.Mesh.{faces_of}
use Rattle.rules.specs.Refusal.{ok}
use Rattle.rules.specs.Rooms.{work_room, filled, cleared}
use Rattle.rules.specs.Edges as rule
use Rattle.rules.specs.LoopsCall.{LoopsRooms}
use Rattle.refuse.specs.Accepted.{Faces}
use Rattle.drawing.specs.Drawing.{Stands}

-- accepted faces with a simple boundary, the stated rooms, and where the boundary goes on
pub record ListAsks (P : ℕ) (xs : List ℕ) (r : LoopsRooms) : Type 0 where
  pub faces : Faces P xs
  pub room_loop_vertices : 3 * (length xs / 3) ≤ length r.loop_vertices
  pub room_loop_ends : 3 * (length xs / 3) ≤ length r.loop_ends
  pub room_work : work_room P (length xs / 3) ≤ length r.work
  pub simple : rule.no8 P (faces_of xs) ≡ ok
  pub m : ℕ
  pub stands : Stands true r.work xs P m

-- the rules' rooms after an accepted call
abbrev pub after : ℕ → List ℕ → LoopsRooms → LoopsRooms
after P xs r =
    record {
      loop_vertices = filled 0 (3 * (length xs / 3)) (rule.loop_vertices P (faces_of xs)) r.loop_vertices;
      loop_ends = filled 0 (3 * (length xs / 3)) (rule.loop_ends P (faces_of xs)) r.loop_ends;
      work = cleared (work_room P (length xs / 3)) r.work;
    }

-- every room is the rules', and so are the counts
pub record ListGives (P : ℕ) (xs : List ℕ) (r r' : LoopsRooms) (loop_vertices loop_ends : ℕ) : Type 0 where
  pub vertices_is : loop_vertices ≡ length (rule.loop_vertices P (faces_of xs))
  pub ends_is : loop_ends ≡ length (rule.loop_ends P (faces_of xs))
  pub rooms : r' ≡ after P xs r
