-- The words of this crate's contracts: what one mesh asks of its parts of the rooms and gives there. Definitions only.
use Rattle.std.specs.Prelude.{◌≡◌, List, ◌++◌, ℕ, ◌+◌, ◌*◌, ◌^◌, ◌≤◌, ◌<◌, Float, length, take}
use Rattle.std.specs.Float.{nan}
use Rattle.rows.specs.Region.{OnlyOf, Only}
use Rattle.rules.specs.State.{report_counts}
use Rattle.rules.specs.Rooms.{work_room, Outcome}
use Rattle.rules.specs.RepairCall.{RepairRooms}
use Rattle.rules.specs.PanelCall.{its_points, its_faces, its_counts, its_origins, four}
use Rattle.mend_mesh.specs.declared.Share.{Share}
use Rattle.mend_mesh.specs.declared.At.{At}

-- ---- one mesh in its parts of the rooms

-- parts as long as a repair of P points and F faces states, and four entries
pub record OneAsks (P F : ℕ) (ps : List Float) (xs rs os fours w : List ℕ) : Type 0 where
  pub room_points : 3 * (P + 3 * F) ≤ length ps
  pub room_faces : 3 * F ≤ length xs
  pub room_report : report_counts ≤ length rs
  pub room_origins : F ≤ length os
  pub room_four : 4 ≤ length fours
  pub room_work : work_room P F ≤ length w

-- the k entries of `answer` stand in front
pub record Stands {A : Type 0} (answer w' : List A) (k : ℕ) : Type 0 where
  pub long : k ≡ length answer
  pub front : take k w' ≡ answer

-- what its repair contributes stands there, its four entries too, and the work room is changed only as far as it states
pub record OneGives (o : Outcome RepairRooms) (P F : ℕ) (w : List ℕ) (ps' : List Float) (xs' rs' os' fours' w' : List ℕ) (r : Share) : Type 0 where
  pub points : Stands (its_points o) ps' r.points
  pub faces : Stands (its_faces o) xs' r.faces
  pub counts : Stands (its_counts o) rs' r.counts
  pub origins : Stands (its_origins o) os' r.origins
  pub fours : take 4 fours' ≡ four o.answer
  pub only_work : Only 0 (work_room P F) w w'

-- ---- one mesh behind others

-- room for p points and f faces in every list from where it begins
pub record NextAsks (points : List Float) (faces : List ℕ) (p f : ℕ) (ps : List Float) (xs rs os ms w : List ℕ) (k : ℕ) (at : At) : Type 0 where
  pub few_points : p < 2 ^ 32
  pub few_faces : f < 2 ^ 32
  pub points_fit : at.points + 3 * p ≤ length points
  pub faces_fit : at.faces + 3 * f ≤ length faces
  pub room_points : at.mended + 3 * (p + 3 * f) ≤ length ps
  pub room_faces : at.triples + 3 * f ≤ length xs
  pub room_report : at.counts + report_counts ≤ length rs
  pub room_origins : at.origins + f ≤ length os
  pub room_meshes : 4 * k + 4 ≤ length ms
  pub room_work : work_room p f ≤ length w

-- a list that ended at q ends at q', behind `answer`, and nothing is changed past the first n entries
pub record Grown {A : Type 0} (d : A) (n q : ℕ) (answer w w' : List A) (q' : ℕ) : Type 0 where
  pub only : OnlyOf d 0 n w w'
  pub ends : q' ≡ q + length answer
  pub front : take q' w' ≡ take q w ++ answer

-- each list has grown by what its repair contributes
pub record NextGives
    (o : Outcome RepairRooms) (p f k : ℕ) (at : At) (ps : List Float) (xs rs os ms w : List ℕ) (ps' : List Float) (xs' rs' os' ms' w' : List ℕ) (r : At)
    : Type 0 where
  pub points : r.points ≡ at.points + 3 * p
  pub faces : r.faces ≡ at.faces + 3 * f
  pub out_points : Grown nan (at.mended + 3 * (p + 3 * f)) at.mended (its_points o) ps ps' r.mended
  pub out_faces : Grown 0 (at.triples + 3 * f) at.triples (its_faces o) xs xs' r.triples
  pub report : Grown 0 (at.counts + report_counts) at.counts (its_counts o) rs rs' r.counts
  pub origins : Grown 0 (at.origins + f) at.origins (its_origins o) os os' r.origins
  pub meshes : Grown 0 (4 * k + 4) (4 * k) (four o.answer) ms ms' (4 * k + 4)
  pub only_work : Only 0 (work_room p f) w w'
