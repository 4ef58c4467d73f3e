-- Demand 3, the statement alone: what holds of every mesh that an accepted repair with all six options returns. To read it takes the rules' words
-- (`specs/`) and the words below, and nothing of any engine. `Demand3.demand3` proves it, `Called.called3` says it of what the call leaves in its
-- rooms, `Agreeing` compares its words with those of the passes, and `Teeth` tells which line fails without which pass. In it `T b` says that the test b
-- passes, `List.Memᴰ x xs` that x is among xs, and `get_or xs k 0` is entry k of xs. Below it stands what else holds of such a mesh, and what the edge check
-- says of it (`Checked.check_says_yes` proves that). Definitions only.
use mathlib.Core.Path.{◌≡◌}
use mathlib.Core.Logic.{◌⊎◌, ◌≢◌}
use mathlib.Core.Bool.{Bool, not, ◌&&◌}
use mathlib.Core.List.{List, [], ◌∷◌, map, Memᴰ}
use Prim.Native.Nat.{ℕ, ◌+◌, ◌*◌, ◌/◌, ◌≤◌, ◌<◌}
use lib.ListN.{length, get_or}
use lib.Dec.{T, eqb}
use lib.Ieee.{Float}
use Rattle.rules.specs.Lists.{count, any, each, has}
use Rattle.rules.specs.Mesh.{Point, Face, points_of, faces_of, flat_points, flat_faces, point, face, corners, exchanged}
use Rattle.rules.specs.Steps.{Step, step, steps, same}
use Rattle.rules.specs.State.{State, Count, place, repeateds, thins, duplicates, dropped_at_edges, dropped_for_direction, points_added, isolated}
use Rattle.rules.specs.Pass6.{used}
use Rattle.rules.specs.Refusal.{ok}
use Rattle.rules.specs.Edges.{boundary, loops}
use Rattle.rules.specs.Repair.{repaired}
use Rattle.rules.specs.Rooms.{accepted}
use Rattle.rules.specs.Calls.{RepairRooms, repair_check, EdgesRooms, edges_check, LoopsRooms, loops_check, check}

-- ---- one fan

-- faces i and j share an edge at v: both have the corner v, and another corner in common
abbrev pub across_edge : List Face → ℕ → ℕ → ℕ → Bool
across_edge fs v i j =
    has v (corners (face fs i)) && (has v (corners (face fs j)) && any (λ x. not (eqb x v) && has x (corners (face fs j))) (corners (face fs i)))

-- a chain from one number to another, each joined to the next and below n
pub data Chain (joined : ℕ → ℕ → Bool) (n : ℕ) : ℕ → ℕ → Type 0 where
  stay : {i : ℕ} → Chain joined n i i
  link : {i j k : ℕ} → Chain joined n i j → T (joined j k) → k < n → Chain joined n i k

-- the faces at v form one fan joined across edges: a chain of faces, each sharing an edge at v with the next, leads from any of them to any other
abbrev pub OneFan : List Face → ℕ → Type 0
OneFan fs v =
    (i j : ℕ) → i < length fs → j < length fs → T (has v (corners (face fs i))) → T (has v (corners (face fs j)))
    → Chain (across_edge fs v) (length fs) i j

-- ---- which input face a face is

-- where a face's corners lie: three points, with the very bits of their coordinates
abbrev pub positions : List Point → Face → List Point
positions ps f = map (point ps) (corners f)

-- the corners of g over ps' lie where those of f over ps do, at most the last two exchanged
abbrev pub Lies : List Point → Face → List Point → Face → Type 0
Lies ps f ps' g = (positions ps' g ≡ positions ps f) ⊎ (positions ps' g ≡ positions ps (exchanged f))

-- each face of fs' over ps' is a different face of fs over ps, in their order, by its origin, and lies where that one does
pub record Traced (ps : List Point) (fs : List Face) (ps' : List Point) (fs' : List Face) : Type 0 where
  -- origins rise: no two are the same, and the order is kept
  pub rising : (k l : ℕ) → k < l → l < length fs' → (face fs' k).origin < (face fs' l).origin
  -- they are numbers of faces of fs
  pub inputs : (k : ℕ) → k < length fs' → (face fs' k).origin < length fs
  -- the corners lie where those of that face lay, at most the last two exchanged
  pub places : (k : ℕ) → k < length fs' → Lies ps (face fs (face fs' k).origin) ps' (face fs' k)

-- ---- counts

-- a count of a report
abbrev pub at : List ℕ → Count → ℕ
at r c = get_or r (place c) 0

-- the first of the four removals: faces that repeat a corner, and thin ones
abbrev pub degenerate : List ℕ → ℕ
degenerate r = at r repeateds + at r thins

-- ---- the edge call and the loop call

-- enough room for the edge call on P points and F faces
pub record EdgesEnough (P F : ℕ) (r : EdgesRooms) : Type 0 where
  pub edges_fit : 6 * F ≤ length r.edges
  pub lengths_fit : 3 * F ≤ length r.lengths
  pub face_edges_fit : 3 * F ≤ length r.face_edges
  pub work_fits : 16 * P + 64 * F + 64 ≤ length r.work

-- enough room for the loop call
pub record LoopsEnough (P F : ℕ) (r : LoopsRooms) : Type 0 where
  pub loop_vertices_fit : 3 * F ≤ length r.loop_vertices
  pub loop_ends_fit : 3 * F ≤ length r.loop_ends
  pub work_fits : 16 * P + 64 * F + 64 ≤ length r.work

-- A loop is listed against the walk: the step to each vertex comes from its follower in the list, and to the last one from z.
unfoldable pub along : ℕ → List ℕ → List Step
along z [] = []
along z (x ∷ []) = step z x ∷ []
along z (x ∷ y ∷ l) = step y x ∷ along z (y ∷ l)

-- the steps along a loop: to the last vertex of the list from its first
unfoldable pub loop_steps : List ℕ → List Step
loop_steps [] = []
loop_steps (x ∷ l) = along x (x ∷ l)

-- each boundary edge is in exactly one loop
pub record Looped (P : ℕ) (fs : List Face) : Type 0 where
  -- one loop goes along it, and no other
  pub one_has_each : (s : Step) → Memᴰ s (boundary fs) → count (λ l. any (same s) (loop_steps l)) (loops P fs) ≡ 1
  -- all loops together go along it once
  pub each_in_one : (s : Step) → Memᴰ s (boundary fs) → count (same s) (each loop_steps (loops P fs)) ≡ 1
  -- and a loop has a vertex and goes along boundary edges alone
  pub each_closes :
      (l : List ℕ) → Memᴰ l (loops P fs) → (0 < length l) × ((s : Step) → Memᴰ s (loop_steps l) → Memᴰ s (boundary fs))

-- ---- the demand

-- what holds of the mesh m that a repair returns of the points ps and the faces fs
pub record Demand3 (ps : List Point) (fs : List Face) (m : State) : Type 0 where
  -- the triples walk each directed edge at most once
  pub each_once : (d : Step) → count (same d) (each steps m.faces) ≤ 1
  -- the faces at each point form one fan joined across edges
  pub one_fan : (v : ℕ) → v < length m.points → OneFan m.faces v
  -- each point is used
  pub every_used : (v : ℕ) → v < length m.points → T (used m.faces v)
  -- each face is a different input face, in input order, with the same corner positions, at most its last two corners exchanged
  pub is_traced : Traced ps fs m.points m.faces
  -- input faces equal output faces plus the four removals
  pub faces_add_up :
      length fs
      ≡ length m.faces + (degenerate m.report + at m.report duplicates + at m.report dropped_at_edges + at m.report dropped_for_direction)
  -- input points plus added equal output points plus isolated
  pub points_add_up : length ps + at m.report points_added ≡ length m.points + at m.report isolated
  -- given enough room, the edge call accepts that output
  pub edges_accepted : (r : EdgesRooms) → EdgesEnough (length m.points) (length m.faces) r → edges_check (flat_points m.points) (flat_faces m.faces) r ≡ ok
  -- so does the loop call
  pub loops_accepted : (r : LoopsRooms) → LoopsEnough (length m.points) (length m.faces) r → loops_check (flat_points m.points) (flat_faces m.faces) r ≡ ok
  -- and each boundary edge is in exactly one loop
  pub is_looped : Looped (length m.points) m.faces

-- the demand of every repair that is accepted with these options; all six are 63
abbrev pub Claim : ℕ → Type 0
Claim options =
    (points : List Float) (faces : List ℕ) (s : Float) (r : RepairRooms) → repair_check points faces s options r ≡ ok
    → Demand3 (points_of points) (faces_of faces) (repaired s options (points_of points) (faces_of faces))

-- ---- beside the customer's words

-- three different corners
abbrev pub Distinct : Face → Type 0
Distinct f = (f.a ≢ f.b) × (f.b ≢ f.c) × (f.c ≢ f.a)

-- what else holds of the mesh m
pub record Beside (m : State) : Type 0 where
  -- every corner is a point, so that its position is one
  pub corners_inside : (f : Face) → Memᴰ f m.faces → (f.a < length m.points) × (f.b < length m.points) × (f.c < length m.points)
  -- no face repeats a corner
  pub is_distinct : (f : Face) → Memᴰ f m.faces → Distinct f

-- this of every repair that is accepted with these options
abbrev pub ClaimBeside : ℕ → Type 0
ClaimBeside options =
    (points : List Float) (faces : List ℕ) (s : Float) (r : RepairRooms) → repair_check points faces s options r ≡ ok
    → Beside (repaired s options (points_of points) (faces_of faces))

-- ---- the edge check

-- enough work room for the edge check on P points and F faces
abbrev pub CheckEnough : ℕ → ℕ → List ℕ → Type 0
CheckEnough P F work = 16 * P + 64 * F + 64 ≤ length work

-- given enough work room, the edge check accepts the faces xs, flat, over P points, and says yes to them
abbrev pub SaysYes : ℕ → List ℕ → Type 0
SaysYes P xs = (work : List ℕ) → CheckEnough P (length xs / 3) work → (check P xs work).answer ≡ accepted (1 ∷ [])

-- this of every repair that is accepted with these options
abbrev pub ClaimChecked : ℕ → Type 0
ClaimChecked options =
    (points : List Float) (faces : List ℕ) (s : Float) (r : RepairRooms) → repair_check points faces s options r ≡ ok
    → (let m = repaired s options (points_of points) (faces_of faces) in SaysYes (length m.points) (flat_faces m.faces))
