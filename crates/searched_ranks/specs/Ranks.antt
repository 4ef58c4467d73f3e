-- Marked corners that come before another, by faces. Definitions only.
use Rattle.std.specs.Prelude.{Bool, ◌&&◌, ◌||◌, List, ℕ, ◌+◌, ◌*◌, ◌/◌, ◌%◌, ◌<◌, eqb, ltb, length, get_or}
use Rattle.rules.specs.Lists.{below, filter}
use Rattle.fan_laws.specs.Sums.{sum_of}
use Rattle.face_words.specs.Words.{stands, view}
use Rattle.face_words.specs.Views.{Worded}
use Rattle.searched_splits.specs.Splits.{one, bit_of, pick_of}

-- corner k is marked in a word
unfoldable pub marked_in : ℕ → ℕ → Bool
marked_in x k = eqb (x / (8 * bit_of k) % 2) 1

-- x is below v, or is v and corner y comes before corner id
unfoldable pub before_in : ℕ → ℕ → ℕ → ℕ → Bool
before_in x v y id = ltb x v || (eqb x v && ltb y id)

-- 1 if corner j of face g is marked and comes before corner id, which is at v
unfoldable pub count_at : List ℕ → List ℕ → ℕ → ℕ → ℕ → ℕ → ℕ
count_at xs w v id g j = one (marked_in (get_or w g 0) j && before_in (pick_of (view xs w g).a (view xs w g).b (view xs w g).c j) v (3 * g + j) id)

-- of the three corners of a face
unfoldable pub face_count : List ℕ → List ℕ → ℕ → ℕ → ℕ → ℕ
face_count xs w v id g = count_at xs w v id g 0 + count_at xs w v id g 1 + count_at xs w v id g 2

-- of all faces that stand
unfoldable pub rank_by : List ℕ → List ℕ → ℕ → ℕ → ℕ
rank_by xs w v id = sum_of (face_count xs w v id) (filter (stands w) (below (length w)))

-- g is a face
pub record CornerAsks (xs w : List ℕ) (g j : ℕ) : Type 0 where
  pub worded : Worded xs w
  pub here : g < length w
  pub corner : j < 3

-- one word for each face
pub record RankAsks (xs w : List ℕ) : Type 0 where
  pub worded : Worded xs w
