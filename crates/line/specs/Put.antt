-- The words of this crate's contracts: what a function puts into the line, and the answer of the call as the rules' outcome. Definitions only.
use Rattle.std.specs.Prelude.{Result, Ok, Err, cond, ℕ, ◌+◌, ◌≤◌, ◌<◌, eqb, ltb, length, get_or}
use mathlib.Core.List.{List, [], ◌∷◌, ◌++◌, map, zip}
use Prim.Native.String.{String}
use Rattle.byte_rows.specs.Put.{Puts}
use Rattle.rules.specs.Lists.{filter}
use Rattle.rules.specs.Line as rule
use Rattle.rules.specs.Rooms.{Outcome, accepted, refused}
use Rattle.refuse.specs.Verdicts.{number_of, place_of}
use Rattle.refuse.specs.declared.Refusal.{Refusal}

-- how many labels there are
abbrev pub label_count : ℕ
label_count = 10

-- room for `most` bytes of part k
pub record PartAsks (w : List ℕ) (at most k : ℕ) : Type 0 where
  pub label : k < label_count
  pub room : at + most ≤ length w

-- label k
abbrev pub label : ℕ → String
label k = get_or rule.labels k ""

-- a comma and a blank, where a part stands before
unfoldable pub comma : ℕ → List ℕ
comma at = cond (eqb at 0) [] (rule.bytes ", ")

-- what count k adds to a line that goes on at `at`: nothing if it is zero
unfoldable pub more : ℕ → ℕ → ℕ → List ℕ
more at n k = cond (eqb n 0) [] (comma at ++ rule.part (n, label k))

-- the nonzero counts, each with its label
unfoldable pub shown : List (ℕ × String) → List (ℕ × String)
shown es = filter (λ e. ltb 0 e.0) es

-- their parts, joined
unfoldable pub parts : List ℕ → List ℕ
parts counts = rule.joined (map rule.part (shown (zip counts rule.labels)))

-- the bytes xs are put into the line's front, and are at most 512
pub record LineGives (w xs w' : List ℕ) (end : ℕ) : Type 0 where
  pub puts : Puts w 0 xs w' end
  pub short : end ≤ 512

-- an answer of the call, and what its room then holds, as the rules' outcome
abbrev pub outcome_of : Result ℕ Refusal → List ℕ → Outcome (List ℕ)
outcome_of (Ok n) room = record { answer = accepted (n ∷ []); rooms = room }
outcome_of (Err r) room = record { answer = refused (number_of r) (place_of r); rooms = room }
