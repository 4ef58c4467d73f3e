-- Which entries are wanted, and what ranks first among them: over the coordinates ps, the flat list of faces xs and their words w. Definitions only.
use Rattle.std.specs.Prelude.{◌≡◌, Bool, true, false, not, cond, List, [], map, ℕ, ◌/◌, ◌<◌, eqb, ltb, length, get_or, drop, Float, Option, None, Some, IfSome}
use Rattle.std.specs.Bool.{beq}
use Rattle.rules.specs.Lists.{filter, each}
use Rattle.rules.specs.Float.{quality}
use Rattle.rules.specs.Mesh.{Face, face, points_of}
use Rattle.rules.specs.Steps.{Step, steps, edge, walks, quality_of}
use Rattle.rules.specs.Pass3.{second, kept}
use Rattle.rank.specs.Ranks.{better_or, pick, face_or}
use Rattle.face_words.specs.Words.{stands, view, there, every_face, takers_at}
use Rattle.face_words.specs.Views.{seen_as, Worded}
use Rattle.face_words.specs.declared.Corners.{Corners}
use Rattle.entry_search.specs.Searching.{along}
use Rattle.rank.specs.declared.Choice.{Choice}

-- whether a face is wanted that walks the edge, or does not: either one, or only as it is said
abbrev pub walks_so : Option Bool → Bool → Bool
walks_so None b = true
walks_so (Some x) b = beq b x

-- face f is the one of which an entry is not counted
abbrev pub is_but : Option ℕ → ℕ → Bool
is_but None f = false
is_but (Some g) f = eqb f g

-- the steps of a face v with the number f that are wanted: along t, without one of face `but`, and as `walk` says of the face
unfoldable pub wanted : Option Bool → Option ℕ → Bool → Step → Face → ℕ → List Step
wanted walk but d t v f =
    let us = filter (along d t) (steps v) in
    cond (walks_so walk (walks v (edge t))) (cond (is_but but f) (drop 1 us) us) []

-- there is one
unfoldable pub admits : Option Bool → Option ℕ → Bool → Step → Face → ℕ → Bool
admits walk but d t v f = ltb 0 (length (wanted walk but d t v f))

-- the wanted entries of faces below k that stand: one number of a face for each
abbrev pub wanted_at : Option Bool → Option ℕ → Bool → Step → List ℕ → List ℕ → ℕ → List ℕ
wanted_at walk but d t xs w k = each (λ f. map (λ s. f) (wanted walk but d t (view xs w f) f)) (there w k)

-- the quality of a face by its number
abbrev pub value_at : List Float → List ℕ → List ℕ → ℕ → Float
value_at ps xs w = quality_of (points_of ps) (every_face xs w)

-- the entries along the edge of t
abbrev pub users_at : List ℕ → List ℕ → Step → List ℕ
users_at xs w t = takers_at (along false t) xs w (length w)

-- pass 3's second choice there, by faces
abbrev pub second_at : List Float → List ℕ → List ℕ → Step → ℕ → ℕ
second_at ps xs w t one =
    second (value_at ps xs w) one (users_at xs w t) (filter (λ j. not (beq (walks (face (every_face xs w) j) (edge t)) (walks (face (every_face xs w) one) (edge t)))) (users_at xs w t))

-- who is kept there, by faces
abbrev pub kept_at : List Float → List ℕ → List ℕ → Step → ℕ → Bool
kept_at ps xs w t f = kept (value_at ps xs w) (every_face xs w) (edge t) (users_at xs w t) f

-- faces with their words, over points
pub record BestAsks (ps : List Float) (xs w : List ℕ) : Type 0 where
  pub worded : Worded xs w
  pub inside : (i : ℕ) → i < length xs → get_or xs i 0 < length ps / 3

-- what is chosen among F faces: a face with its quality
pub record Chosen (q : ℕ → Float) (F : ℕ) (b : Choice) : Type 0 where
  pub here : b.face < F
  pub value : b.quality ≡ q b.face

-- by any values that the choice and the face have, the better of both
pub record BetterGives (ps : List Float) (g : Corners) (f : ℕ) (b : Option Choice) (r : Choice) : Type 0 where
  pub chosen : (q : ℕ → Float) (F : ℕ) → f < F → q f ≡ quality (points_of ps) (seen_as g 0) → IfSome b (Chosen q F) → Chosen q F r
  pub picked : (q : ℕ → Float) (F : ℕ) → f < F → q f ≡ quality (points_of ps) (seen_as g 0) → IfSome b (Chosen q F) → r.face ≡ better_or F q (face_or F b) f

-- a choice so far, and a face
pub record ConsiderAsks (ps : List Float) (xs w : List ℕ) (f : ℕ) (b : Option Choice) : Type 0 where
  pub asks : BestAsks ps xs w
  pub here : f < length w
  pub chosen : IfSome b (Chosen (value_at ps xs w) (length w))

-- the choice when the wanted entries of the face were taken in
pub record ConsiderGives (ps : List Float) (xs w : List ℕ) (f : ℕ) (d : Bool) (t : Step) (walk : Option Bool) (but : Option ℕ) (b r : Option Choice) : Type 0 where
  pub chosen : IfSome r (Chosen (value_at ps xs w) (length w))
  pub picked :
      face_or (length w) r
      ≡ cond (stands w f) (cond (admits walk but d t (view xs w f) f) (better_or (length w) (value_at ps xs w) (face_or (length w) b) f) (face_or (length w) b)) (face_or (length w) b)

-- a number, or F of none
abbrev pub number_or : ℕ → Option ℕ → ℕ
number_or F None = F
number_or F (Some f) = f

-- the first in rank of all wanted entries
pub record BestGives (ps : List Float) (xs w : List ℕ) (d : Bool) (t : Step) (walk : Option Bool) (but r : Option ℕ) : Type 0 where
  pub here : IfSome r (λ f. f < length w)
  pub picked : number_or (length w) r ≡ pick (length w) (value_at ps xs w) (length w) (wanted_at walk but d t xs w (length w))

-- an edge with two entries at least, and a face
pub record SecondAsks (ps : List Float) (xs w : List ℕ) (t : Step) (one : ℕ) : Type 0 where
  pub asks : BestAsks ps xs w
  pub two : 1 < length (users_at xs w t)
  pub here : one < length w

-- an edge with two entries at least
pub record KeptAsks (ps : List Float) (xs w : List ℕ) (t : Step) : Type 0 where
  pub asks : BestAsks ps xs w
  pub two : 1 < length (users_at xs w t)
