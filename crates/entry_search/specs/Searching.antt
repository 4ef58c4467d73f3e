-- Which faces are looked at when the entries of a step or an edge are searched, and how many entries they have. Definitions only.
use Rattle.std.specs.Prelude.{Bool, cond, List, ℕ, length}
use Rattle.rules.specs.Lists.{filter}
use Rattle.rules.specs.Steps.{Step, steps, same, edge}
use Rattle.face_words.specs.Words.{stands, view}
-- both are corners of a face, and the next one that may have both
unfoldable pub use Rattle.face_index.specs.Index.{joins}
pub use Rattle.face_index.specs.Index.{CandidateAsks, CandidateGives}

-- the step s is the step t, or, where direction does not matter, along its edge
unfoldable pub along : Bool → Step → Step → Bool
along d t s = same (cond d t (edge t)) (cond d s (edge s))

-- how many steps of face f pass the test, none if it does not stand
abbrev pub uses_at : List ℕ → List ℕ → (Step → Bool) → ℕ → ℕ
uses_at xs w p f = cond (stands w f) (length (filter p (steps (view xs w f)))) 0
