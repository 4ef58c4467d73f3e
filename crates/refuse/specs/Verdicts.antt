-- The words of this crate's contracts: a verdict as the rules' check, and the checks that calls share. Definitions only.
use Rattle.std.specs.Prelude.{Result, Ok, Err, ℕ, ◌/◌, ◌≤◌, Bool, not, ◌||◌, List, [], ◌∷◌, length, leb, eqb, ltb, Float}
use Rattle.rules.specs.Lists.{all, any}
use Rattle.rules.specs.Mesh.{Point, Face, coordinates, corners, points_of, faces_of}
use Rattle.rules.specs.Refusal.{Check, ok, no, no1, no2, no3_threshold, no3_options, no4, no5, no9, no10, in_domain, no_patch, most_points, most_faces}
use Rattle.refuse.specs.declared.Refusal.{Refusal}
use Rattle.refuse.specs.declared.Refusal.TheVariants.{BadLength, TooLarge, BadSetting, BadPoint, BadCorner, ShortRoom, CrowdedEdge, BadBoundary, BadLabel, LabelCount, BadFile, BadPly, NotATriple, BadList}

-- the number of a refusal in the table
abbrev pub number_of : Refusal → ℕ
number_of (BadLength _) = 1
number_of (TooLarge _) = 2
number_of (BadSetting _) = 3
number_of (BadPoint _) = 4
number_of (BadCorner _) = 5
number_of (ShortRoom _) = 6
number_of (CrowdedEdge _) = 7
number_of (BadBoundary _) = 8
number_of (BadLabel _) = 9
number_of LabelCount = 10
number_of BadFile = 12
number_of BadPly = 13
number_of (NotATriple _) = 14
number_of (BadList _) = 15

-- its place
abbrev pub place_of : Refusal → ℕ
place_of (BadLength p) = p
place_of (TooLarge p) = p
place_of (BadSetting p) = p
place_of (BadPoint p) = p
place_of (BadCorner p) = p
place_of (ShortRoom p) = p
place_of (CrowdedEdge p) = p
place_of (BadBoundary p) = p
place_of (BadLabel p) = p
place_of LabelCount = 0
place_of BadFile = 0
place_of BadPly = 0
place_of (NotATriple p) = p
place_of (BadList p) = p

-- what a check finds, as the rules have it
abbrev pub check_of : {A : Type 0} → Result A Refusal → Check
check_of (Ok _) = ok
check_of (Err r) = no (number_of r) (place_of r)

-- ---- what is at fault in 4, 5 and 9

-- a coordinate outside its domain
abbrev pub far : Point → Bool
far p = not (all in_domain (coordinates p))

-- a corner >= P
abbrev pub astray : ℕ → Face → Bool
astray P f = any (leb P) (corners f)

-- a label that is neither the no-patch value nor below the patch count
unfoldable pub strange : ℕ → ℕ → Bool
strange C l = not (eqb l no_patch || ltb l C)

-- P and F are not too large
pub record Limits (P F : ℕ) : Type 0 where
  pub points : P ≤ most_points
  pub faces : F ≤ most_faces

-- ---- the checks that calls share, in their order

-- 2, of P and F
abbrev pub counts : ℕ → ℕ → List Check
counts P F = no2 0 P most_points ∷ no2 1 F most_faces ∷ []

-- 1 and 2, of the lengths of points and faces
abbrev pub sizes : ℕ → ℕ → List Check
sizes points faces = no1 0 points ∷ no1 1 faces ∷ counts (points / 3) (faces / 3)

-- 3
abbrev pub settings : Float → ℕ → List Check
settings s options = no3_threshold s ∷ no3_options options ∷ []

-- 4 and 5
abbrev pub contents : List Float → List ℕ → List Check
contents points faces = no4 (points_of points) ∷ no5 (length points / 3) (faces_of faces) ∷ []

-- 9 and 10
abbrev pub labelling : ℕ → List ℕ → ℕ → List Check
labelling C labels F = no9 C labels ∷ no10 F labels ∷ []
