-- What the functions of pass 3 give, run after run of the undirected table. Definitions only.
use Rattle.std.specs.Prelude.{◌≡◌, Bool, false, not, ◌&&◌, ◌||◌, List, ℕ, ◌+◌, eqb, ltb, length, Float}
use Rattle.rules.specs.Lists.{has}
use Rattle.rules.specs.Mesh.{Face, faces_of, points_of}
use Rattle.rules.specs.Steps.{Step, users}
use Rattle.rules.specs.Pass3.{crowded, kept, marked3}
use Rattle.rank.specs.Ranks.{value_of}
use Rattle.leaving.specs.Pass.{MarkGives}
use Rattle.marking.specs.Marking.{point_count, face_count, edge_at, LostGives}

-- more than two entries meet at the edge e
abbrev pub crowds : List Face → Step → Bool
crowds fs e = ltb 2 (length (users fs e))

-- and face i is among them and not kept there
abbrev pub lost_at : (ℕ → Float) → List Face → Step → ℕ → Bool
lost_at q fs e i = crowds fs e && (has i (users fs e) && not (kept q fs e (users fs e) i))

-- face i is among us, and neither of the two that are kept
abbrev pub lost_of : List ℕ → ℕ → ℕ → ℕ → Bool
lost_of us one two i = has i us && not (eqb i one || eqb i two)

-- what is lost at the edge of run r is marked, and it is said whether the edge is crowded
pub record EdgeGives (ps : List Float) (xs w : List ℕ) (marks r : ℕ) (w' : List ℕ) (is_crowded : Bool) : Type 0 where
  pub lost : LostGives (lost_at (value_of ps xs) (faces_of xs) (edge_at false ps xs r)) w marks (face_count xs) w'
  pub told : is_crowded ≡ crowds (faces_of xs) (edge_at false ps xs r)

-- all that pass 3 marks is marked, and the crowded edges are counted
pub record EdgesGives (ps : List Float) (xs w : List ℕ) (marks : ℕ) (w' : List ℕ) (count : ℕ) : Type 0 where
  pub marked : MarkGives (marked3 (points_of ps) (faces_of xs)) (marks + face_count xs) (face_count xs) w w' marks
  pub counted : count ≡ length (crowded (point_count ps) (faces_of xs))
