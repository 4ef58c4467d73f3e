-- The runs of n sorted entries, by the rows alone: the keys of the entry with number id stand at `at` and at `at + n`, plus id; the entry at place i
-- of the order stands at `at + 3 * n + i`.
use Rattle.std.specs.Prelude.{◌≡◌, Bool, true, not, cond, List, [], ◌∷◌, ◌++◌, ℕ, zero, suc, ◌+◌, ◌*◌, ◌^◌, ◌≤◌, ◌<◌, length, get_or}
use Rattle.rows.specs.Region.{part, Only, Only2}
use Rattle.rules.specs.Lists.{below, filter, count}
use Rattle.rules.specs.Steps.{Step, step, same}

-- the entry at place i of the order
abbrev pub entry : List ℕ → ℕ → ℕ → ℕ → ℕ
entry w n at i = get_or w (at + 3 * n + i) 0

-- its keys
abbrev pub key_at : List ℕ → ℕ → ℕ → ℕ → Step
key_at w n at i = step (get_or w (at + entry w n at i) 0) (get_or w (at + n + entry w n at i) 0)

-- a run begins at place i: it is the first place, or its keys are not those of the place before
abbrev pub begins : List ℕ → ℕ → ℕ → ℕ → Bool
begins w n at zero = true
begins w n at (suc i) = not (same (key_at w n at (suc i)) (key_at w n at i))

-- the rows fit, and the order's entries have keys
pub record RunsAsks (w : List ℕ) (n at : ℕ) : Type 0 where
  pub few : n < 2 ^ 32
  pub fit : at + 5 * n + 1 ≤ length w
  pub id : (i : ℕ) → i < n → entry w n at i < n

-- and place i is one of them
pub record BeginsAsks (w : List ℕ) (n at i : ℕ) : Type 0 where
  pub rows : RunsAsks w n at
  pub here : i < n

-- m runs have begun so far, before place i
pub record NoteAsks (w : List ℕ) (n at m i : ℕ) : Type 0 where
  pub rows : RunsAsks w n at
  pub here : i < n
  pub begun : m ≤ i

-- the places where runs begin grow by i, if one begins there
pub record NoteGives (w : List ℕ) (n at m i : ℕ) (w' : List ℕ) (r : ℕ) : Type 0 where
  pub only : Only (at + 4 * n) (n + 1) w w'
  pub number : r ≡ m + cond (begins w n at i) 1 0
  pub starts : part w' (at + 4 * n) r ≡ part w (at + 4 * n) m ++ cond (begins w n at i) (i ∷ []) []

-- The runs begin at the places that `begins` says, in order, and n stands behind them; and the run of the entry at a place is how many runs begin before
-- or there, less the first. The last is said of any g that gives each entry the number of its run, as an entry might stand at two places.
pub record RunsGives (w : List ℕ) (n at : ℕ) (w' : List ℕ) (m : ℕ) : Type 0 where
  pub only : Only2 (at + 2 * n) n (at + 4 * n) (n + 1) w w'
  pub number : m ≡ count (begins w n at) (below n)
  pub starts : part w' (at + 4 * n) m ≡ filter (begins w n at) (below n)
  pub end : get_or w' (at + 4 * n + m) 0 ≡ n
  pub runs : (g : ℕ → ℕ) → ((i : ℕ) → i < n → suc (g (entry w n at i)) ≡ count (begins w n at) (below (suc i))) → (i : ℕ) → i < n → get_or w' (at + 2 * n + entry w n at i) 0 ≡ g (entry w n at i)
