-- The half entries of a mesh's steps, and what the functions that gather those of a range of keys ask and give.
use Rattle.std.specs.Prelude.{◌≡◌, cond, Result, List, ℕ, zero, suc, ◌+◌, ◌-◌, ◌*◌, ◌/◌, ◌%◌, ◌≤◌, ◌<◌, ◌^◌, eqb, length, get_or}
use Rattle.refuse.specs.Accepted.{Faces}
use Rattle.refuse.specs.declared.Refusal.{Refusal}
use Rattle.halves.specs.declared.State.{State}
use Rattle.halves.specs.Split.{hit, tally}
use Rattle.halves.specs.Scan.{Upto, Told, Small, SmallIn}
use Rattle.halves.specs.Walk.{Counts, Inside}

-- the corner after corner i of the same face
unfoldable pub next_of : ℕ → ℕ
next_of i = cond (eqb (i % 3) 2) (i - 2) (i + 1)

-- how many half entries x the first i steps have: each step from v to u has one at (v, u) and one at (u, v)
unfoldable pub halves : List ℕ → ℕ → ℕ → ℕ → ℕ
halves f P zero x = 0
halves f P (suc i) x = halves f P i x + (hit (2 * (get_or f i 0 * P + get_or f (next_of i) 0)) x + hit (2 * (get_or f (next_of i) 0 * P + get_or f i 0) + 1) x)

-- no half entry of the range stands in the region more often than g says
pub record AtMost (g : ℕ → ℕ) (a : List ℕ) (n from to : ℕ) : Type 0 where
  pub each : (x : ℕ) → from ≤ x / 2 → x / 2 < to → tally a 0 n x ≤ g x

-- the buffer holds n half entries from from up to to; it is full only where the range is one key
pub record Holding (size from top : ℕ) (a : List ℕ) (n to : ℕ) : Type 0 where
  pub long : length a ≡ size
  pub above : from < to
  pub within : to ≤ top
  pub fewer : n ≤ size
  pub inside : Inside a 0 n from to
  pub full : n ≡ size → to ≡ from + 1

-- a full buffer
pub record ShrinkAsks (a : List ℕ) (from to : ℕ) : Type 0 where
  pub above : from < to
  pub inside : Inside a 0 (length a) from to

-- it holds the entries of a smaller range, all of them, or those of one key
pub record ShrinkGives (a : List ℕ) (from to : ℕ) (a' : List ℕ) (n' to' : ℕ) : Type 0 where
  pub holding : Holding (length a) from to a' n' to'
  pub counts : (g : ℕ → ℕ) → Counts g a 0 (length a) from to → Counts g a' 0 n' from to'

-- a half entry, and room for one
pub record PutAsks (a : List ℕ) (n from to k d : ℕ) : Type 0 where
  pub room : n < length a
  pub above : from < to
  pub inside : Inside a 0 n from to
  pub bit : d ≤ 1
  pub fits : 2 * k + 1 < 2 ^ 64

-- it is counted if it is in the range
pub record PutGives (a : List ℕ) (n from to k d : ℕ) (a' : List ℕ) (n' to' : ℕ) : Type 0 where
  pub holding : Holding (length a) from to a' n' to'
  pub counts : (g : ℕ → ℕ) → Counts g a 0 n from to → Counts (λ x. g x + hit (2 * k + d) x) a' 0 n' from to'

-- a step, and room for one half entry
pub record BothAsks (a : List ℕ) (n from to P v u : ℕ) : Type 0 where
  pub room : n < length a
  pub above : from < to
  pub inside : Inside a 0 n from to
  pub fits : 2 * (v * P + u) + 1 < 2 ^ 64
  pub fits' : 2 * (u * P + v) + 1 < 2 ^ 64

-- both its half entries are counted, unless one key fills the buffer
pub record BothGives (a : List ℕ) (n from to P v u : ℕ) (a' : List ℕ) (n' to' : ℕ) : Type 0 where
  pub holding : Holding (length a) from to a' n' to'
  pub counts : n' < length a → (g : ℕ → ℕ) → Counts g a 0 n from to → Counts (λ x. g x + (hit (2 * (v * P + u)) x + hit (2 * (u * P + v) + 1) x)) a' 0 n' from to'
  pub most : (g : ℕ → ℕ) → Counts g a 0 n from to → AtMost (λ x. g x + (hit (2 * (v * P + u)) x + hit (2 * (u * P + v) + 1) x)) a' n' from to'

-- faces, a range that is not empty, and more room than two users of an edge have half entries
pub record GatherAsks (f : List ℕ) (P from top : ℕ) (a : List ℕ) : Type 0 where
  pub faces : Faces P f
  pub above : from < top
  pub room : 4 < length a

-- all half entries of a range are in the buffer, or one key fills it
pub record GatherGives (f : List ℕ) (P from top : ℕ) (a a' : List ℕ) (n to : ℕ) : Type 0 where
  pub holding : Holding (length a) from top a' n to
  pub counts : n < length a → Counts (halves f P (length f)) a' 0 n from to
  pub most : AtMost (halves f P (length f)) a' n from to

-- keys from `from` up to `top`, those before them passed, and such a buffer
pub record RoundsAsks (f : List ℕ) (P from top : ℕ) (t : State) (a : List ℕ) : Type 0 where
  pub faces : Faces P f
  pub order : from ≤ top
  pub within : top ≤ P * P
  pub small : Small from t
  pub upto : Upto (halves f P (length f)) P from t
  pub room : 4 < length a

-- the keys before `top` are passed
pub record RoundsGives (f : List ℕ) (P top : ℕ) (r : Result State Refusal) : Type 0 where
  pub small : SmallIn top r
  pub told : Told (halves f P (length f)) P top r
