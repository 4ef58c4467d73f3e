-- What the functions of the table ask and give, over a row w, a flat list of faces xs, P points and the kind d. Definitions only.
use Rattle.std.specs.Prelude.{◌≡◌, Bool, List, ℕ, ◌+◌, ◌*◌, ◌^◌, ◌%◌, ◌≤◌, ◌<◌, length, get_or, set}
use Rattle.rows.specs.Region.{part, Apart, Only, Only2, Holds, Filled}
use Rattle.rules.specs.Lists.{each, first}
use Rattle.rules.specs.Mesh.{faces_of}
use Rattle.rules.specs.Steps.{Step, same}
use Rattle.table.specs.Entries.{step_at, under, ids_of, keys_of, start_of}

-- places for both keys of entry i
pub record PutAsks (w : List ℕ) (first second i : ℕ) : Type 0 where
  pub first_fit : first + i < length w
  pub second_fit : second + i < length w

-- both keys of entry i written, of what step s is under
abbrev pub put : List ℕ → Bool → ℕ → ℕ → ℕ → Step → List ℕ
put w d first second i s = set (set w (first + i) (under d s).from) (second + i) (under d s).to

-- rows for both keys of each entry
pub record KeysAsks (w xs : List ℕ) (first second : ℕ) : Type 0 where
  pub whole : length xs % 3 ≡ 0
  pub few : length xs < 2 ^ 32
  pub first_fit : first + length xs ≤ length w
  pub second_fit : second + length xs ≤ length w
  pub apart : Apart first (length xs) second (length xs)

-- they hold the ends of what each entry is under
pub record KeysGives (w xs : List ℕ) (d : Bool) (first second : ℕ) (w' : List ℕ) : Type 0 where
  pub only : Only2 first (length xs) second (length xs) w w'
  pub firsts : Holds first (length xs) (λ id. (under d (step_at (faces_of xs) id)).from) w'
  pub seconds : Holds second (length xs) (λ id. (under d (step_at (faces_of xs) id)).to) w'

-- the faces are whole, their corners are points, and the room is there
pub record TableAsks (w xs : List ℕ) (P at : ℕ) : Type 0 where
  pub whole : length xs % 3 ≡ 0
  pub few : length xs < 2 ^ 32
  pub fit : at + 5 * length xs + 1 + P ≤ length w
  pub inside : (i : ℕ) → i < length xs → get_or xs i 0 < P

-- the table from `at` on: both keys of each entry, and the entries in order
pub record Sorted (w xs : List ℕ) (P : ℕ) (d : Bool) (at : ℕ) : Type 0 where
  pub firsts : Holds at (length xs) (λ id. (under d (step_at (faces_of xs) id)).from) w
  pub seconds : Holds (at + length xs) (length xs) (λ id. (under d (step_at (faces_of xs) id)).to) w
  pub sorted : part w (at + 3 * length xs) (length xs) ≡ each (ids_of d (faces_of xs)) (keys_of d P (faces_of xs))

-- the entries are sorted, and the bins are 0 again
pub record OrderGives (w xs : List ℕ) (P : ℕ) (d : Bool) (at : ℕ) (w' : List ℕ) : Type 0 where
  pub only : Only at (5 * length xs + 1 + P) w w'
  pub zeros : Filled (at + 5 * length xs + 1) P 0 w'
  pub table : Sorted w' xs P d at

-- how many runs there are
abbrev pub run_count : List ℕ → ℕ → Bool → ℕ
run_count xs P d = length (keys_of d P (faces_of xs))

-- the number of the run of an entry: for the undirected table, the rules' `position` of its step
abbrev pub run_of : List ℕ → ℕ → Bool → ℕ → ℕ
run_of xs P d id = first (same (under d (step_at (faces_of xs) id))) (keys_of d P (faces_of xs))

-- a finished table from `at` on: what a pass that reads it asks. `Theorems` has what it says in the words of the rules
pub record Tabled (w xs : List ℕ) (P : ℕ) (d : Bool) (at m : ℕ) : Type 0 where
  pub asks : TableAsks w xs P at
  pub table : Sorted w xs P d at
  pub count : m ≡ run_count xs P d
  pub starts : Holds (at + 4 * length xs) (m + 1) (start_of d P (faces_of xs)) w
  pub runs : Holds (at + 2 * length xs) (length xs) (run_of xs P d) w

-- what `table` gives: nothing outside its 5n + 1 + P entries is changed, the bins are 0 again, and it is a table
pub record TableGives (w xs : List ℕ) (P : ℕ) (d : Bool) (at : ℕ) (w' : List ℕ) (m : ℕ) : Type 0 where
  pub only : Only at (5 * length xs + 1 + P) w w'
  pub zeros : Filled (at + 5 * length xs + 1) P 0 w'
  pub tabled : Tabled w' xs P d at m
