-- What the scan of an undirected table asks and gives: xs are the corners of the faces that the table in w is of, from `states` on their states stand.
-- Definitions only.
use Rattle.std.specs.Prelude.{◌≡◌, false, cond, List, ℕ, ◌+◌, ◌*◌, ◌/◌, ◌%◌, ◌^◌, ◌≤◌, ◌<◌, eqb, length, get_or}
use Rattle.table.specs.Entries.{next}
use Rattle.table.specs.Table.{Tabled}

-- where the step of an entry begins, as its face stands
abbrev pub begin_of : List ℕ → List ℕ → ℕ → ℕ → ℕ
begin_of w xs states id = cond (eqb (get_or w (states + id / 3) 0) 2) (get_or xs (next id) 0) (get_or xs id 0)

-- an entry, and the state of its face
pub record BeginAsks (w xs : List ℕ) (states id : ℕ) : Type 0 where
  pub whole : length xs % 3 ≡ 0
  pub few : length xs < 2 ^ 32
  pub here : id < length xs
  pub fit : states + length xs / 3 ≤ length w

-- where run r begins, and where the next one does
abbrev pub from : List ℕ → List ℕ → ℕ → ℕ → ℕ
from w xs at r = get_or w (at + 4 * length xs + r) 0

-- the entry at a place of the order
abbrev pub entry : List ℕ → List ℕ → ℕ → ℕ → ℕ
entry w xs at j = get_or w (at + 3 * length xs + j) 0

-- two entries at places that follow each other
pub record PairAsks (w xs : List ℕ) (states at j : ℕ) : Type 0 where
  pub whole : length xs % 3 ≡ 0
  pub few : length xs < 2 ^ 32
  pub fit : states + length xs / 3 ≤ length w
  pub room : at + 4 * length xs ≤ length w
  pub here : j + 1 < length xs
  pub first : entry w xs at j < length xs
  pub second : entry w xs at (j + 1) < length xs

-- a finished table with m runs, and the states
pub record SingleAsks (w xs : List ℕ) (states at m : ℕ) : Type 0 where
  pub points : ℕ
  pub tabled : Tabled w xs points false at m
  pub fit : states + length xs / 3 ≤ length w

-- and r is one of the runs
pub record RunAsks (w xs : List ℕ) (states at r : ℕ) : Type 0 where
  pub runs : ℕ
  pub asks : SingleAsks w xs states at runs
  pub here : r < runs

-- run r has one entry, or two that begin at different ends
pub record Opposed (w xs : List ℕ) (states at r : ℕ) : Type 0 where
  pub few : from w xs at (r + 1) ≤ from w xs at r + 2
  pub differ : from w xs at (r + 1) ≡ from w xs at r + 2 → begin_of w xs states (entry w xs at (from w xs at r)) ≡ begin_of w xs states (entry w xs at (from w xs at r + 1)) → ⊥
