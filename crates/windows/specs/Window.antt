-- What the functions over a window of vertices ask and give.
use Rattle.std.specs.Prelude.{◌≡◌, Result, Ok, Err, ℕ, zero, suc, ◌+◌, ◌-◌, ◌*◌, ◌/◌, ◌^◌, ◌<◌, ◌≤◌, List, length, slice_index}
use Rattle.refuse.specs.Accepted.{Faces}
use Rattle.rows.specs.Region.{Filled}
use Rattle.refuse.specs.declared.Refusal.{Refusal}
use Rattle.halves.specs.declared.State.{State}
use Rattle.halves.specs.Split.{tally}
use Rattle.halves.specs.Scan.{Upto, Told, Small, SmallIn}
use Rattle.halves.specs.Gather.{halves, RoundsGives}
use Rattle.windows.specs.declared.Step.{Step}
use Rattle.windows.specs.Around.{corners_of, start_of}

-- where run j begins, by the ends of the runs
unfoldable pub begin_of : List ℕ → ℕ → ℕ
begin_of ends zero = 0
begin_of ends (suc j) = slice_index ends j

-- how many entries it has
abbrev pub many_of : List ℕ → ℕ → ℕ
many_of ends j = slice_index ends j - begin_of ends j

-- the runs of w vertices from v on
pub record RunsAsks (P v w : ℕ) (ends b entries : List ℕ) (t : State) : Type 0 where
  pub points : P ≤ 4194304
  pub within : v + w ≤ P
  pub ends_fit : w ≤ length ends
  pub rise : (j : ℕ) → j < w → begin_of ends j ≤ slice_index ends j
  pub fit : (j : ℕ) → j < w → slice_index ends j ≤ length b
  pub each : (j : ℕ) → j < w → many_of ends j ≤ length entries
  pub below : (j : ℕ) → j < w → (i : ℕ) → i < many_of ends j → slice_index b (begin_of ends j + i) / 2 < P
  pub small : Small (v * P) t

-- each run has the half entries of its vertex as often as c says
pub record RunsCount (c : ℕ → ℕ) (P v w : ℕ) (ends b : List ℕ) : Type 0 where
  pub each : (j : ℕ) → j < w → (x : ℕ) → x / 2 < P → tally b (begin_of ends j) (many_of ends j) x ≡ c (2 * ((v + j) * P) + x)

-- their keys are passed
pub record RunsGives (P v w : ℕ) (ends b : List ℕ) (t : State) (r : Result State Refusal) : Type 0 where
  pub small : SmallIn ((v + w) * P) r
  pub told : (c : ℕ → ℕ) → RunsCount c P v w ends b → Upto c P (v * P) t → Told c P ((v + w) * P) r

-- w vertices from v on have runs, and those before v are passed; `more` vertices, at least, are left
pub record WindowAsks (f : List ℕ) (P v w more width : ℕ) (t : State) (ends b counts entries : List ℕ) : Type 0 where
  pub faces : Faces P f
  pub left : v + more ≤ P
  pub wide : width ≤ 65536
  pub within : w ≤ width
  pub ends_fit : width ≤ length ends
  pub counts_fit : width ≤ length counts
  pub starts : (j : ℕ) → j < w → slice_index ends j ≡ start_of f v j
  pub room : start_of f v w ≤ length b
  pub bounded : start_of f v w < 2 ^ 32
  pub each : (j : ℕ) → j < w → 2 * corners_of f (v + j) ≤ length entries
  pub zeros : Filled 0 width 0 counts
  pub entries_fit : 4 < length entries
  pub small : Small (v * P) t
  pub upto : Upto (halves f P (length f)) P (v * P) t

-- the corners of the `width` vertices from v on are counted
pub record Counted (f : List ℕ) (v width : ℕ) (counts : List ℕ) : Type 0 where
  pub each : (k : ℕ) → k < width → slice_index counts k ≡ corners_of f (v + k)

-- the vertices before v are passed, and those from v on are counted
pub record AdvanceAsks (f : List ℕ) (P v width : ℕ) (t : State) (ends counts entries : List ℕ) : Type 0 where
  pub faces : Faces P f
  pub left : v < P
  pub wide : width ≤ 65536
  pub ends_fit : width ≤ length ends
  pub counts_fit : width ≤ length counts
  pub counted : Counted f v width counts
  pub entries_fit : 4 < length entries
  pub small : Small (v * P) t
  pub upto : Upto (halves f P (length f)) P (v * P) t

-- so of the next
pub record Passed (f : List ℕ) (P v width : ℕ) (counts : List ℕ) (t : State) : Type 0 where
  pub counted : Counted f v width counts
  pub small : Small (v * P) t
  pub upto : Upto (halves f P (length f)) P (v * P) t

-- the vertices before v are passed, unless a crowded edge is met
abbrev pub WindowGives : List ℕ → ℕ → ℕ → ℕ → List ℕ → Result State Refusal → Type 0
WindowGives f P v width counts (Ok t) = Passed f P v width counts t
WindowGives f P v width counts (Err e) = RoundsGives f P (v * P) (Err e)

-- some vertex more is passed
pub record Stepped (f : List ℕ) (P v width : ℕ) (counts : List ℕ) (s : Step) : Type 0 where
  pub passed : Passed f P s.v width counts s.t
  pub above : v < s.v
  pub within : s.v ≤ P

-- or a crowded edge is met
abbrev pub AdvanceGives : List ℕ → ℕ → ℕ → ℕ → List ℕ → Result Step Refusal → Type 0
AdvanceGives f P v width counts (Ok s) = Stepped f P v width counts s
AdvanceGives f P v width counts (Err e) = RoundsGives f P (P * P) (Err e)

-- faces, and a buffer for more half entries than two users of an edge have
pub record AllAsks (f : List ℕ) (P : ℕ) (entries : List ℕ) : Type 0 where
  pub faces : Faces P f
  pub entries_fit : 4 < length entries
