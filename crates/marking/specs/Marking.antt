-- Marks of the faces xs over the coordinates ps, made run after run: the table of the faces stands at the front of the work room w, and from `marks` on a
-- mark for each face. `d` is the table's kind. Definitions only.
use Rattle.std.specs.Prelude.{Bool, cond, List, ℕ, ◌+◌, ◌*◌, ◌/◌, ◌≤◌, ◌<◌, length, get_or, Float}
use Rattle.rows.specs.Region.{Only, Holds}
use Rattle.rules.specs.Mesh.{faces_of}
use Rattle.rules.specs.Steps.{Step, step}
use Rattle.table.specs.Entries.{keys_of}
use Rattle.table.specs.Table.{TableAsks, Tabled, run_count}

-- how many points there are
abbrev pub point_count : List Float → ℕ
point_count ps = length ps / 3

-- how many faces there are
abbrev pub face_count : List ℕ → ℕ
face_count xs = length xs / 3

-- what pass 3, and pass 4's second half, take of the work room: a table of the faces, and their marks
abbrev pub taken : ℕ → ℕ → ℕ
taken P n = 16 * n + 1 + P

-- the edge of run r
abbrev pub edge_at : Bool → List Float → List ℕ → ℕ → Step
edge_at d ps xs r = get_or (keys_of d (point_count ps) (faces_of xs)) r (step 0 0)

-- the table fits, and the marks behind it
pub record MarkAsks (ps : List Float) (xs w : List ℕ) (marks : ℕ) : Type 0 where
  pub table : TableAsks w xs (point_count ps) 0
  pub behind : 5 * length xs + 1 + point_count ps ≤ marks
  pub fit : marks + face_count xs ≤ length w

-- the table stands, and r is one of its runs
pub record RunAsks (d : Bool) (ps : List Float) (xs w : List ℕ) (marks r : ℕ) : Type 0 where
  pub tabled : Tabled w xs (point_count ps) d 0 (run_count xs (point_count ps) d)
  pub here : r < run_count xs (point_count ps) d
  pub behind : 5 * length xs + 1 ≤ marks
  pub fit : marks + face_count xs ≤ length w

-- the len entries from `from` on are of F faces, and their marks stand behind them
pub record EntriesAsks (w : List ℕ) (from len marks F : ℕ) : Type 0 where
  pub behind : from + len ≤ marks
  pub fit : marks + F ≤ length w
  pub faces : (k : ℕ) → k < len → get_or w (from + k) 0 / 3 < F

-- those of F faces that are lost are marked too, and nothing else is changed
pub record LostGives (lost : ℕ → Bool) (w : List ℕ) (marks F : ℕ) (w' : List ℕ) : Type 0 where
  pub only : Only marks F w w'
  pub added : Holds marks F (λ i. cond (lost i) 1 (get_or w (marks + i) 0)) w'
