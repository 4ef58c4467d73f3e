-- The words of this crate's contracts: its values as the rules' own. Definitions only.
use Rattle.std.specs.Prelude.{ℕ, ◌/◌, ◌<◌, List, length, Float}
use Rattle.rules.specs.Mesh.{Point, Face}
use Rattle.rules.specs.Float.{Shape, good, repeated, thin}
use Rattle.measure.specs.declared.Vector.{Vector}
use Rattle.measure.specs.declared.Form.{Form}
use Rattle.measure.specs.declared.Form.TheVariants.{Good, Repeated, Thin}

-- a vector as the rules' point
abbrev pub point_of : Vector → Point
point_of v = record { x = v.x; y = v.y; z = v.z }

-- a form as the rules' shape
abbrev pub shape_of : Form → Shape
shape_of Good = good
shape_of Repeated = repeated
shape_of Thin = thin

-- a shape as a number: 0 good, 1 repeated, 2 thin
abbrev pub number_of : Shape → ℕ
number_of good = 0
number_of repeated = 1
number_of thin = 2

-- three point numbers as the rules' face
abbrev pub face_of : ℕ → ℕ → ℕ → Face
face_of a b c = record { a = a; b = b; c = c; origin = 0 }

-- a, b and c are numbers of points
pub record Corners (points : List Float) (a b c : ℕ) : Type 0 where
  pub a_in : a < length points / 3
  pub b_in : b < length points / 3
  pub c_in : c < length points / 3
