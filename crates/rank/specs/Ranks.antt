-- Ranking the faces of a run of entries, over the coordinates ps, the flat list of faces xs and the run's entries. Definitions only.
use Rattle.std.specs.Prelude.{◌≡◌, Bool, not, ◌&&◌, ◌||◌, cond, List, map, ℕ, ◌/◌, ◌%◌, ◌<◌, eqb, ltb, length, get_or, Float, Option, None, Some, IfSome}
use Rattle.std.specs.Bool.{beq}
use Rattle.std.specs.Float.Ieee.{lt}
use Rattle.rules.specs.Lists.{filter, through}
use Rattle.rules.specs.Mesh.{Face, face, faces_of, points_of}
use Rattle.rules.specs.Steps.{Step, walks, quality_of}
use Rattle.rules.specs.Rank.{better, best, without}
use Rattle.rank.specs.declared.Choice.{Choice}

-- the faces of a run of entries
abbrev pub faces_in : List ℕ → List ℕ
faces_in run = map (λ id. id / 3) run

-- how many faces there are
abbrev pub count : List ℕ → ℕ
count xs = length xs / 3

-- the quality of a face by its number
abbrev pub value_of : List Float → List ℕ → ℕ → Float
value_of ps xs = quality_of (points_of ps) (faces_of xs)

-- i with the value a ranks before j with the value b
abbrev pub above : Float → ℕ → Float → ℕ → Bool
above a i b j = lt b a || not (lt a b) && ltb i j

-- the better of b and j, where b = F stands for none
unfoldable pub better_or : ℕ → (ℕ → Float) → ℕ → ℕ → ℕ
better_or F q b j = cond (eqb b F) j (better q b j)

-- the best of b and a list, F of none
unfoldable pub pick : ℕ → (ℕ → Float) → ℕ → List ℕ → ℕ
pick F q b us = through (better_or F q) b us

-- those whose walk of e is not `forward`, as pass 3 has it
unfoldable pub others : List Face → Step → Bool → List ℕ → List ℕ
others fs e forward us = filter (λ j. not (beq (walks (face fs j) e) forward)) us

-- the faces are whole, and their corners are points
pub record FacesAsks (ps : List Float) (xs : List ℕ) : Type 0 where
  pub whole : length xs % 3 ≡ 0
  pub corners : (i : ℕ) → i < length xs → get_or xs i 0 < length ps / 3

-- i is a face
pub record WalksAsks (xs : List ℕ) (i : ℕ) : Type 0 where
  pub whole : length xs % 3 ≡ 0
  pub here : i < count xs

-- i is a face over points
pub record QualityAsks (ps : List Float) (xs : List ℕ) (i : ℕ) : Type 0 where
  pub faces : FacesAsks ps xs
  pub here : i < count xs

-- a choice: a face with its quality
pub record Chosen (ps : List Float) (xs : List ℕ) (c : Choice) : Type 0 where
  pub here : c.face < count xs
  pub value : c.quality ≡ value_of ps xs c.face

-- its face, or F of none
abbrev pub face_or : ℕ → Option Choice → ℕ
face_or F None = F
face_or F (Some c) = c.face

-- the choice so far, and a face to hold it against
pub record BetterAsks (ps : List Float) (xs : List ℕ) (b : Option Choice) (j : ℕ) : Type 0 where
  pub faces : FacesAsks ps xs
  pub chosen : IfSome b (Chosen ps xs)
  pub here : j < count xs

-- the better of both
pub record BetterGives (ps : List Float) (xs : List ℕ) (b : Option Choice) (j : ℕ) (r : Choice) : Type 0 where
  pub chosen : Chosen ps xs r
  pub picked : r.face ≡ better_or (count xs) (value_of ps xs) (face_or (count xs) b) j

-- what ranking asks: faces over points, and a run of their entries
pub record RankAsks (ps : List Float) (xs run : List ℕ) : Type 0 where
  pub faces : FacesAsks ps xs
  pub ids : (i : ℕ) → i < length run → get_or run i 0 < length xs

-- a run, and the choice to begin with
pub record ScanAsks (ps : List Float) (xs run : List ℕ) (b : Option Choice) : Type 0 where
  pub rank : RankAsks ps xs run
  pub chosen : IfSome b (Chosen ps xs)

-- the best of both
pub record ScanGives (ps : List Float) (xs run : List ℕ) (b r : Option Choice) : Type 0 where
  pub chosen : IfSome r (Chosen ps xs)
  pub picked : face_or (count xs) r ≡ pick (count xs) (value_of ps xs) (face_or (count xs) b) (faces_in run)

-- the best of those that walk otherwise
pub record OtherGives (ps : List Float) (xs run : List ℕ) (e : Step) (forward : Bool) (r : Option Choice) : Type 0 where
  pub chosen : IfSome r (Chosen ps xs)
  pub picked : face_or (count xs) r ≡ pick (count xs) (value_of ps xs) (count xs) (others (faces_of xs) e forward (faces_in run))

-- the best of those without one entry of `one`
pub record RestGives (ps : List Float) (xs run : List ℕ) (one : ℕ) (r : Option Choice) : Type 0 where
  pub picked : face_or (count xs) r ≡ pick (count xs) (value_of ps xs) (count xs) (without one (faces_in run))

-- a run that is not empty
pub record BestAsks (ps : List Float) (xs run : List ℕ) : Type 0 where
  pub rank : RankAsks ps xs run
  pub some : 0 < length run

-- the rules' best, which is a face
pub record BestGives (ps : List Float) (xs run : List ℕ) (r : ℕ) : Type 0 where
  pub first : r ≡ best (value_of ps xs) (faces_in run)
  pub here : r < count xs

-- a run of two entries or more, and a face
pub record SecondAsks (ps : List Float) (xs run : List ℕ) (one : ℕ) : Type 0 where
  pub rank : RankAsks ps xs run
  pub two : 1 < length run
  pub one_in : one < count xs
