-- What the listing of an edge call asks and gives, over a flat list of faces xs and points ps. Definitions only.
use Rattle.std.specs.Prelude.{false, List, ℕ, ◌*◌, ◌/◌, length, Float}
use Rattle.rules.specs.Lists.{each}
use Rattle.rules.specs.Mesh.{faces_of, points_of, zero64}
use Rattle.rules.specs.Steps.{edges}
use Rattle.rules.specs.Rooms.{work_room, filled, cleared}
use Rattle.rules.specs.Edges as rule
use Rattle.rules.specs.Edges.{both_ends}
use Rattle.rules.specs.EdgesCall.{EdgesRooms}
use Rattle.edges_refusal.specs.Checks.{EdgesAccepted}
use Rattle.drawing.specs.Drawing.{Stands}

-- an accepted call whose table stands
pub record ListAsks (ps : List Float) (xs : List ℕ) (m : ℕ) (r : EdgesRooms) : Type 0 where
  pub accepted : EdgesAccepted ps xs (length r.edges) (length r.lengths) (length r.face_edges) (length r.work)
  pub stands : Stands false r.work xs (length ps / 3) m

-- the rules' rooms after an accepted call
abbrev pub after : List Float → List ℕ → EdgesRooms → EdgesRooms
after ps xs r =
    record {
      edges = filled 0 (6 * (length xs / 3)) (each both_ends (edges (length ps / 3) (faces_of xs))) r.edges;
      lengths = filled zero64 (3 * (length xs / 3)) (rule.lengths (points_of ps) (faces_of xs)) r.lengths;
      face_edges = filled 0 (3 * (length xs / 3)) (rule.face_edges (length ps / 3) (faces_of xs)) r.face_edges;
      work = cleared (work_room (length ps / 3) (length xs / 3)) r.work;
    }
