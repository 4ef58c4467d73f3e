-- What the six passes leave in the rooms: the words of the repair's core. Definitions only.
use Rattle.std.specs.Prelude.{◌≡◌, List, ℕ, ◌+◌, ◌*◌, ◌/◌, ◌^◌, ◌≤◌, length, replicate, Float}
use Rattle.std.specs.Float.{nan}
use Rattle.rows.specs.Region.{OnlyOf, Only}
use Rattle.rules.specs.Mesh.{points_of, faces_of}
use Rattle.rules.specs.State.{report_counts}
use Rattle.rules.specs.Rooms.{work_room}
use Rattle.rules.specs.Repair.{passes, repaired}
use Rattle.refuse.specs.Accepted.{Accepted}
use Rattle.passes.specs.Passing.{Lists, state_in, stated}
use Rattle.lending.specs.declared.Mended.{Mended}
use Rattle.lending.specs.Reports.{counts_of, CountsBelow}

-- the six passes on the lists m, from a report of zeros: what the rules make of them stands in m', and nothing beyond the stated rooms is changed
pub record TurnsGive (s : Float) (options : ℕ) (m m' : Lists) (r : Mended) : Type 0 where
  pub state : state_in m' (counts_of r.report) ≡ passes s options (state_in m (replicate report_counts 0))
  pub few : CountsBelow (2 ^ 32) r.report
  pub points_fit : m'.p ≤ m.p + 3 * m.n
  pub faces_fit : m'.n ≤ m.n
  pub only_points : OnlyOf nan 0 (3 * (m.p + 3 * m.n)) m.points m'.points
  pub only_faces : Only 0 (3 * m.n) m.faces m'.faces
  pub only_origins : Only 0 m.n m.origins m'.origins
  pub only_work : Only 0 (stated m) m.work m'.work

-- accepted points and faces, and the rooms of a repair
pub record MendAsks (points : List Float) (faces : List ℕ) (ps : List Float) (xs os w : List ℕ) : Type 0 where
  pub input : Accepted points faces
  pub room_points : 3 * (length points / 3 + 3 * (length faces / 3)) ≤ length ps
  pub room_faces : 3 * (length faces / 3) ≤ length xs
  pub room_origins : length faces / 3 ≤ length os
  pub room_work : work_room (length points / 3) (length faces / 3) ≤ length w

-- the rules' repair stands in m', and nothing beyond the stated rooms ps, xs, os and w is changed
pub record MendGives (points : List Float) (faces : List ℕ) (s : Float) (options : ℕ) (ps : List Float) (xs os w : List ℕ) (m' : Lists) (r : Mended) : Type 0 where
  pub state : state_in m' (counts_of r.report) ≡ repaired s options (points_of points) (faces_of faces)
  pub few : CountsBelow (2 ^ 32) r.report
  pub points_fit : m'.p ≤ length points / 3 + 3 * (length faces / 3)
  pub faces_fit : m'.n ≤ length faces / 3
  pub only_points : OnlyOf nan 0 (3 * (length points / 3 + 3 * (length faces / 3))) ps m'.points
  pub only_faces : Only 0 (3 * (length faces / 3)) xs m'.faces
  pub only_origins : Only 0 (length faces / 3) os m'.origins
  pub only_work : Only 0 (work_room (length points / 3) (length faces / 3)) w m'.work
