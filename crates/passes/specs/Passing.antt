-- What a pass asks of the rooms and leaves in them: the words of this crate's contracts. Definitions only.
use Rattle.std.specs.Prelude.{◌≡◌, List, ℕ, ◌+◌, ◌*◌, ◌≤◌, ◌<◌, length, get_or, take, Float}
use Rattle.std.specs.Float.{nan}
use Rattle.rows.specs.Region.{OnlyOf, Only}
use Rattle.leaving.specs.Pass.{FacesStand, carried}
use Rattle.rules.specs.Mesh.{points_of}
use Rattle.rules.specs.Repair.{optional, bit}
use Rattle.rules.specs.Rooms.{work_room}
use Rattle.rules.specs.State.{State, more, repeateds, thins, duplicates, crowded_edges, dropped_at_edges, dropped_for_direction, vertices_split, points_added, reoriented, components, isolated}
use Rattle.rules.specs.Pass1 as one
use Rattle.rules.specs.Pass2 as two
use Rattle.rules.specs.Pass3 as three
use Rattle.rules.specs.Pass4 as four
use Rattle.rules.specs.Pass5 as five
use Rattle.rules.specs.Pass6 as six
use Rattle.drop_isolated_vertices.specs.Unused.{UnusedAsks}
use Rattle.passes.specs.declared.Passed.{Passed}

-- the lists of a repair in their rooms: p points and n faces stand at the front, with the origins of these, and the work room lies beside them
pub record Lists : Type 0 where
  pub points : List Float
  pub p : ℕ
  pub faces : List ℕ
  pub origins : List ℕ
  pub n : ℕ
  pub work : List ℕ

-- lists by their rooms and numbers
abbrev pub lists : List Float → ℕ → List ℕ → List ℕ → ℕ → List ℕ → Lists
lists points p faces origins n work = record { points = points; p = p; faces = faces; origins = origins; n = n; work = work }

-- what a pass leaves that changes nothing, of p points and n faces
abbrev pub all_kept : ℕ → ℕ → Passed
all_kept p n = record { points = p; faces = n; dropped = 0; found = 0; changed = 0 }

-- the state of the rules that they hold, with a report
abbrev pub state_in : Lists → List ℕ → State
state_in m report = record { points = points_of (take (3 * m.p) m.points); faces = carried m.faces m.origins m.n; report = report }

-- what passes 1 to 5 ask: the faces stand, each with an origin, the points have room for three more a face, and `taken` entries of the work room are there
pub record Stands (taken : ℕ) (m : Lists) : Type 0 where
  pub stand : FacesStand taken m.p m.faces m.n m.work
  pub own : m.n ≤ length m.origins
  pub room : 3 * (m.p + 3 * m.n) ≤ length m.points

-- the stated work room of a repair
abbrev pub stated : Lists → ℕ
stated m = work_room m.p m.n

-- what pass 6 asks
pub record StandsLast (m : Lists) : Type 0 where
  pub stand : UnusedAsks m.points m.p m.faces m.n m.work
  pub own : m.n ≤ length m.origins

-- how far a pass goes: from `least` to `most` points stand after it, and of the work room it takes `scratch` entries
pub record Reach : Type 0 where
  pub least : ℕ
  pub most : ℕ
  pub scratch : ℕ

-- A pass on the lists m leaves m', which hold what the rule makes of what stood, with the report as `after` leaves it. It reaches no further than it says.
pub record PassGives (pass : State → State) (after : List ℕ → List ℕ) (reach : Reach) (m m' : Lists) (r : Passed) : Type 0 where
  pub state : (report : List ℕ) → state_in m' (after report) ≡ pass (state_in m report)
  pub inside : (i : ℕ) → i < 3 * m'.n → get_or m'.faces i 0 < m'.p
  pub not_below : reach.least ≤ m'.p
  pub not_above : m'.p ≤ reach.most
  pub fewer : m'.n ≤ m.n
  pub few_dropped : r.dropped ≤ m.p + 3 * m.n
  pub few_found : r.found ≤ m.p + 3 * m.n
  pub few_changed : r.changed ≤ m.p + 3 * m.n
  pub only_points : OnlyOf nan 0 (3 * reach.most) m.points m'.points
  pub only_faces : Only 0 (3 * m.n) m.faces m'.faces
  pub only_origins : Only 0 m.n m.origins m'.origins
  pub only_work : Only 0 reach.scratch m.work m'.work

-- passes 1 to 4 keep the points, pass 5 adds up to three a face, and pass 6 drops some
abbrev pub keeps : Lists → Reach
keeps m = record { least = m.p; most = m.p; scratch = stated m }

abbrev pub adds : Lists → Reach
adds m = record { least = m.p; most = m.p + 3 * m.n; scratch = stated m }

abbrev pub drops : Lists → Reach
drops m = record { least = 0; most = m.p; scratch = 2 * m.p }

-- ---- the six passes, each by its option: its rule, and where its counts are added

-- degenerate faces leave: those found repeat a corner, and those dropped besides are thin
abbrev pub Pass1 : ℕ → Float → Lists → Lists → Passed → Type 0
Pass1 options s m m' r =
    PassGives (optional (bit 0 options) (one.pass1 s)) (λ report. more thins r.dropped (more repeateds r.found report)) (keeps m) m m' r

-- of faces with the same three sorted corners the first stays
abbrev pub Pass2 : ℕ → Float → Lists → Lists → Passed → Type 0
Pass2 options s m m' r = PassGives (optional (bit 1 options) two.pass2) (more duplicates r.dropped) (keeps m) m m' r

-- edges with more than two entries are found, and marked faces leave
abbrev pub Pass3 : ℕ → Float → Lists → Lists → Passed → Type 0
Pass3 options s m m' r =
    PassGives (optional (bit 2 options) three.pass3) (λ report. more dropped_at_edges r.dropped (more crowded_edges r.found report)) (keeps m) m m' r

-- faces are turned, components in which neighbours cannot agree are found, and faces leave at directed edges that are used more than once
abbrev pub Pass4 : ℕ → Float → Lists → Lists → Passed → Type 0
Pass4 options s m m' r =
    PassGives (optional (bit 4 options) four.pass4)
    (λ report. more dropped_for_direction r.dropped (more components r.found (more reoriented r.changed report)))
    (keeps m) m m' r

-- vertices are found and split, by points that are added
abbrev pub Pass5 : ℕ → Float → Lists → Lists → Passed → Type 0
Pass5 options s m m' r =
    PassGives (optional (bit 3 options) five.pass5) (λ report. more points_added r.changed (more vertices_split r.found report)) (adds m) m m' r

-- unused points leave
abbrev pub Pass6 : ℕ → Float → Lists → Lists → Passed → Type 0
Pass6 options s m m' r = PassGives (optional (bit 5 options) six.pass6) (more isolated r.dropped) (drops m) m m' r
