-- What the accessors ask of the faces and their words. Definitions only.
use Rattle.std.specs.Prelude.{◌≡◌, List, ℕ, ◌*◌, ◌≤◌, ◌<◌, length}
use Rattle.rules.specs.Mesh.{Face}
use Rattle.rules.specs.Refusal.{most_faces}
use Rattle.face_words.specs.declared.Corners.{Corners}

-- three corners that were read of face f, as the rules' face
abbrev pub seen_as : Corners → ℕ → Face
seen_as r f = record { a = r.a; b = r.b; c = r.c; origin = f }

-- one word for each face
pub record Worded (xs w : List ℕ) : Type 0 where
  pub long : length xs ≡ 3 * length w
  pub few : length w ≤ most_faces

-- and f is one of them
pub record ViewAsks (xs w : List ℕ) (f : ℕ) : Type 0 where
  pub worded : Worded xs w
  pub here : f < length w

-- and k is one of its corners
pub record CornerAsks (xs w : List ℕ) (f k : ℕ) : Type 0 where
  pub view : ViewAsks xs w f
  pub corner : k < 3
