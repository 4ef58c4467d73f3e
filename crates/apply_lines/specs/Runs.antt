-- Lines taken one after the other on a bench that stands in the rooms: what each function of this crate asks and gives. Definitions only.
use Rattle.std.specs.Prelude.{◌≡◌, List, ℕ, ◌+◌, ◌*◌, ◌/◌, ◌≤◌, ◌<◌, length, take, drop, Float, Some}
use Rattle.std.proofs.Math.Option.{some}
use Rattle.std.specs.Float.{nan}
use Rattle.rows.specs.Region.{OnlyOf, Only}
use Rattle.rules.specs.Lists.{through}
use Rattle.rules.specs.Mesh.{points_of, faces_of, flat_points, flat_faces}
use Rattle.rules.specs.Refusal.{ok}
use Rattle.rules.specs.Rooms.{work_room}
use Rattle.rules.specs.Applying.{Bench, lines_read, with_list_line, no15, applied}
use Rattle.refuse.specs.Accepted.{Accepted}
use Rattle.list_lines.specs.declared.Line.{Line}
use Rattle.list_lines.specs.Lines.{Faces, faces_from_row, Reads}
use Rattle.list_changes.specs.Changes.{Stands}
use Rattle.rule_laws.proofs.Rising.{All}

-- the fields of faces of the F that stand, and a new point that is not the old one
pub record TakeAsks (text : List ℕ) (from end : ℕ) (xs : List ℕ) (F old new : ℕ) : Type 0 where
  pub faces : Faces text from end
  pub low : All (λ f. f < F) (faces_from_row text from end)
  pub fit : 3 * F ≤ length xs
  pub other : old < new

-- a bench stands in the rooms, and the lines from `at` on, all of which apply, make z of it
pub record Run (P F : ℕ) (z : Bench) (text : List ℕ) (at : ℕ) (ps : List Float) (xs w : List ℕ) (n : ℕ) : Type 0 where
  pub bench : Bench
  pub stands : Stands P F bench ps n xs w
  pub goes : through (with_list_line P F) (some bench) (lines_read (drop at text)) ≡ some z

-- nothing beyond the stated rooms is changed
pub record Within (P F : ℕ) (ps : List Float) (xs w : List ℕ) (ps' : List Float) (xs' w' : List ℕ) : Type 0 where
  pub only_points : OnlyOf nan 0 (3 * (P + 3 * F)) ps ps'
  pub only_faces : Only 0 (3 * F) xs xs'
  pub only_work : Only 0 (F + 2 * (P + 3 * F)) w w'

-- the line that begins at `at` is the next one
pub record LineAsks (text : List ℕ) (line : Line) (ps : List Float) (xs w : List ℕ) (F n : ℕ) : Type 0 where
  pub P : ℕ
  pub z : Bench
  pub at : ℕ
  pub reads : Reads text at (Some line)
  pub run : Run P F z text at ps xs w n

-- what is left of the lines makes the same
pub record LineGives {text : List ℕ} {line : Line} {ps : List Float} {xs w : List ℕ} {F n : ℕ} (q : LineAsks text line ps xs w F n) (ps' : List Float) (xs' w' : List ℕ) (n' next : ℕ) : Type 0 where
  pub on : q.at < next
  pub inside : next ≤ length text
  pub run : Run q.P F q.z text next ps' xs' w' n'
  pub within : Within q.P F ps xs w ps' xs' w'

-- all lines of the text are left
pub record RunAsks (text : List ℕ) (ps : List Float) (xs w : List ℕ) (F n : ℕ) : Type 0 where
  pub P : ℕ
  pub z : Bench
  pub run : Run P F z text 0 ps xs w n

-- what they make stands in the rooms
pub record RunGives {text : List ℕ} {ps : List Float} {xs w : List ℕ} {F n : ℕ} (q : RunAsks text ps xs w F n) (ps' : List Float) (xs' w' : List ℕ) (n' : ℕ) : Type 0 where
  pub stands : Stands q.P F q.z ps' n' xs' w'
  pub within : Within q.P F ps xs w ps' xs' w'

-- accepted points and faces, a text without a bad line, and the rooms of the call
pub record ApplyAsks (points : List Float) (faces text : List ℕ) (ps : List Float) (xs w : List ℕ) : Type 0 where
  pub input : Accepted points faces
  pub applies : no15 (points_of points) (faces_of faces) text ≡ ok
  pub room_points : 3 * (length points / 3 + 3 * (length faces / 3)) ≤ length ps
  pub room_faces : 3 * (length faces / 3) ≤ length xs
  pub room_work : work_room (length points / 3) (length faces / 3) ≤ length w

-- what the rules make of the input stands at the front: p points and f faces. Nothing beyond the stated rooms is changed
pub record ApplyGives (points : List Float) (faces text : List ℕ) (ps : List Float) (xs w : List ℕ) (ps' : List Float) (xs' w' : List ℕ) (p f : ℕ) : Type 0 where
  pub points_are : take (3 * p) ps' ≡ flat_points (applied (points_of points) (faces_of faces) text).points
  pub faces_are : take (3 * f) xs' ≡ flat_faces (applied (points_of points) (faces_of faces) text).faces
  pub points_fit : p ≤ length points / 3 + 3 * (length faces / 3)
  pub faces_fit : f ≤ length faces / 3
  pub only_points : OnlyOf nan 0 (3 * (length points / 3 + 3 * (length faces / 3))) ps ps'
  pub only_faces : Only 0 (3 * (length faces / 3)) xs xs'
  pub only_work : Only 0 (work_room (length points / 3) (length faces / 3)) w w'
