-- Numbers that are added to a row by the origins of faces: what the functions ask and give. Definitions only.
use Rattle.std.specs.Prelude.{cond, List, ℕ, zero, suc, ◌+◌, ◌*◌, ◌≤◌, ◌<◌, eqb, length, get_or}
use Rattle.rows.specs.Region.{Only, Holds}
use Rattle.rules.specs.Mesh.{Face}
use Rattle.rules.specs.Float.{repeats}
use Rattle.rules.specs.Refusal.{most_faces}

-- what the first k places add at f: each its amount at its origin
abbrev pub added : (ℕ → ℕ) → List ℕ → ℕ → ℕ → ℕ
added amount os zero f = 0
added amount os (suc k) f = added amount os k f + cond (eqb (get_or os k 0) f) (amount k) 0

-- n places with origins os, which are below how many origins there is room for; a row of that many from `fates` on, in which small numbers stand
pub record AddAsks (os : List ℕ) (n : ℕ) (w : List ℕ) (fates : ℕ) : Type 0 where
  pub few : length os ≤ most_faces
  pub own : n ≤ length os
  pub low : (i : ℕ) → i < n → get_or os i 0 < length os
  pub room : fates + length os ≤ length w
  pub small : (f : ℕ) → f < length os → get_or w (fates + f) 0 ≤ 13

-- each amount is added at its origin, and nothing else is changed
pub record AddGives (amount : ℕ → ℕ) (os : List ℕ) (n : ℕ) (w : List ℕ) (fates : ℕ) (w' : List ℕ) : Type 0 where
  pub only : Only fates (length os) w w'
  pub sums : Holds fates (length os) (λ f. get_or w (fates + f) 0 + added amount os n f) w'

-- the flags stand before the row
pub record FlagAsks (os : List ℕ) (marks n : ℕ) (w : List ℕ) (fates : ℕ) : Type 0 where
  pub add : AddAsks os n w fates
  pub flags : marks + n ≤ fates

-- the face at place i of the room xs
abbrev pub corners_at : List ℕ → ℕ → Face
corners_at xs i = record { a = get_or xs (3 * i) 0; b = get_or xs (3 * i + 1) 0; c = get_or xs (3 * i + 2) 0; origin = i }

-- the code where the flag is 1
abbrev pub flagged : ℕ → ℕ → ℕ
flagged flag code = cond (eqb flag 1) code 0

-- of place i: its flag is 1
abbrev pub by_flag : List ℕ → ℕ → ℕ → ℕ → ℕ
by_flag w marks code i = flagged (get_or w (marks + i) 0) code

-- why a face leaves in pass 1: 1 where corners repeat, else 2
abbrev pub why_of : Face → ℕ
why_of f = cond (repeats f) 1 2

-- of place i: its flag is 1, and why
abbrev pub by_shape : List ℕ → List ℕ → ℕ → ℕ → ℕ
by_shape xs w marks i = flagged (get_or w (marks + i) 0) (why_of (corners_at xs i))

-- 8 where corner 1 is another one
abbrev pub turned_by : ℕ → ℕ → ℕ
turned_by b was = cond (eqb b was) 0 8

-- of place i: corner 1 is another one than that of the input face
abbrev pub by_turn : List ℕ → List ℕ → List ℕ → ℕ → ℕ
by_turn input xs os i = turned_by (get_or xs (3 * i + 1) 0) (get_or input (3 * get_or os i 0 + 1) 0)
