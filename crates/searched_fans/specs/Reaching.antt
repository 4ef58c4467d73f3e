-- The search for the group of a corner, by words: which faces are met, and what the functions ask and give. Definitions only.
use Rattle.std.specs.Prelude.{◌≡◌, ◌≢◌, Bool, false, not, ◌&&◌, cond, List, ℕ, ◌+◌, ◌-◌, ◌*◌, ◌/◌, ◌%◌, ◌≤◌, ◌<◌, T, eqb, length, get_or, EachIndex, Option, MatchOption}
use Rattle.rules.specs.Lists.{below, filter, has}
use Rattle.rules.specs.Mesh.{Face, face, faces_of, corners}
use Rattle.rules.specs.Pass5.{share}
use Rattle.splitting.specs.Corners.{corner_at}
use Rattle.fan_laws.specs.Sums.{sum_of, field}
use Rattle.fan_laws.specs.Opening.{single, is_in_group}
use Rattle.face_words.specs.Words.{stands, view, viewed, place}
use Rattle.face_words.specs.Views.{Worded}

-- how far the search has come at face g: 0 not met, 1 waits, 2 gone through
unfoldable pub state : List ℕ → ℕ → ℕ
state w g = get_or w g 0 / 4 % 4

-- face g stands, was not met, and has both v and x
unfoldable pub meets : List ℕ → List ℕ → ℕ → ℕ → ℕ → Bool
meets xs w v x g = eqb (state w g) 0 && (stands w g && (has v (corners (view xs w g)) && has x (corners (view xs w g))))

-- face g stands, was not met, and has v and another point of face i
unfoldable pub joins : List ℕ → List ℕ → ℕ → ℕ → ℕ → Bool
joins xs w v i g = eqb (state w g) 0 && (stands w g && (has v (corners (view xs w g)) && share v (view xs w i) (view xs w g)))

-- the flags of the corners that are v
unfoldable pub flags_of : ℕ → ℕ → ℕ → ℕ → ℕ
flags_of a b c v = cond (eqb a v) 16 0 + cond (eqb b v) 32 0 + cond (eqb c v) 64 0

-- of a face
abbrev pub flags_at : Face → ℕ → ℕ
flags_at f v = flags_of f.a f.b f.c v

-- words that can still be added to
abbrev pub Small : List ℕ → Type 0
Small w = (g : ℕ) → g < length w → get_or w g 0 < 3000000

-- g is a face
pub record MeetAsks (xs w : List ℕ) (g : ℕ) : Type 0 where
  pub worded : Worded xs w
  pub here : g < length w

-- f is a face, or the number of faces
pub record NextAsks (xs : List ℕ) (from : ℕ) : Type 0 where
  pub whole : length xs % 3 ≡ 0
  pub most : from ≤ length xs / 3

-- no face before the next has both
pub record NextGives (xs : List ℕ) (a b from r : ℕ) : Type 0 where
  pub least : from ≤ r
  pub most : r ≤ length xs / 3
  pub none : (g : ℕ) → from ≤ g → g < r → (has a (corners (face (faces_of xs) g)) && has b (corners (face (faces_of xs) g))) ≡ false

-- one small word for each face
pub record CrossAsks (xs w : List ℕ) : Type 0 where
  pub worded : Worded xs w
  pub small : Small w

-- each face that is met waits
pub record CrossGives (xs w : List ℕ) (v x : ℕ) (w' : List ℕ) : Type 0 where
  pub long : length w' ≡ length w
  pub at : (g : ℕ) → g < length w → get_or w' g 0 ≡ cond (not (eqb x v) && meets xs w v x g) (get_or w g 0 + 4) (get_or w g 0)

-- i waits; the states are 0, 1 and 2
pub record ThroughAsks (xs w : List ℕ) (i : ℕ) : Type 0 where
  pub worded : Worded xs w
  pub small : (g : ℕ) → g < length w → get_or w g 0 < 2000000
  pub here : i < length w
  pub waits : state w i ≡ 1

-- it is gone through, and what it joins waits
pub record ThroughGives (xs w : List ℕ) (i v : ℕ) (w' : List ℕ) : Type 0 where
  pub long : length w' ≡ length w
  pub own : get_or w' i 0 ≡ get_or w i 0 + 4
  pub at : (g : ℕ) → g < length w → g ≢ i → get_or w' g 0 ≡ cond (joins xs w v i g) (get_or w g 0 + 4) (get_or w g 0)

-- the first face that waits, if one does
abbrev pub WaitingGives : List ℕ → Option ℕ → Type 0
WaitingGives w r = MatchOption r (EachIndex w (λ g. get_or w g 0 / 4 % 4 ≢ 1)) (λ i. (i < length w) × (get_or w i 0 / 4 % 4 ≡ 1) × ((g : ℕ) → g < i → get_or w g 0 / 4 % 4 ≢ 1))

-- the faces that were gone through are flagged at v
pub record SettleGives (xs w : List ℕ) (v : ℕ) (w' : List ℕ) (r : ℕ) : Type 0 where
  pub long : length w' ≡ length w
  pub at : (g : ℕ) → g < length w → get_or w' g 0 ≡ cond (eqb (state w g) 2) (get_or w g 0 - 8 + flags_at (view xs w g) v) (get_or w g 0)
  pub bytes : r ≡ sum_of field (filter (λ g. eqb (state w g) 2) (below (length w)))

-- No face was met. Corner id of the rules' list is one of face f, at v; f has another point too.
pub record ReachAsks (xs w : List ℕ) (f v : ℕ) : Type 0 where
  pub id : ℕ
  pub worded : Worded xs w
  pub few : (g : ℕ) → g < length w → get_or w g 0 < 1000000
  pub fresh : (g : ℕ) → g < length w → state w g ≡ 0
  pub here : f < length w
  pub standing : T (stands w f)
  pub several : single (view xs w f) ≡ false
  pub inside : id < 3 * length (viewed xs w)
  pub own : id / 3 ≡ place w f
  pub point : corner_at (viewed xs w) id ≡ v

-- the group's faces are flagged at v
pub record ReachGives {xs w : List ℕ} {f v : ℕ} (q : ReachAsks xs w f v) (w' : List ℕ) (r : ℕ) : Type 0 where
  pub long : length w' ≡ length w
  pub at : (g : ℕ) → g < length w → get_or w' g 0 ≡ get_or w g 0 + cond (stands w g && is_in_group (viewed xs w) q.id (place w g)) (flags_at (view xs w g) v) 0
  pub bytes : r ≡ sum_of (λ i. field (face (viewed xs w) i).origin) (filter (is_in_group (viewed xs w) q.id) (below (length (viewed xs w))))
