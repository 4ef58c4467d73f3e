-- Which faces a pass marks, by their words, and what is left when the marked ones are gone. Definitions only.
use Rattle.std.specs.Prelude.{◌≡◌, Bool, true, not, ◌&&◌, cond, List, ℕ, ◌+◌, ◌-◌, ◌/◌, ◌%◌, ◌≤◌, ◌<◌, eqb, ltb, T, length, get_or, set, Float}
use Rattle.rules.specs.Lists.{below, count, any, has, leave}
use Rattle.rules.specs.Mesh.{Face}
use Rattle.rules.specs.Steps.{Step, steps}
use Rattle.rules.specs.Pass2.{alike}
use Rattle.rules.specs.Rank.{best, without}
use Rattle.face_words.specs.Words.{stands, view, viewed, place, takers_at}
use Rattle.face_words.specs.Views.{seen_as, Worded}
use Rattle.face_words.specs.declared.Corners.{Corners}
use Rattle.entry_search.specs.Searching.{along}
use Rattle.entry_search.specs.Choosing.{users_at, value_at, kept_at, BestAsks}

-- face f stands, and the pass marks its place in the rules' list
unfoldable pub mark_at : (List Face → ℕ → Bool) → List ℕ → List ℕ → ℕ → Bool
mark_at m xs w f = stands w f && m (viewed xs w) (place w f)

-- face j stands and has the sorted corners of v
abbrev pub repeats_at : List ℕ → List ℕ → Face → ℕ → Bool
repeats_at xs w v j = stands w j && alike v (view xs w j)

-- the edge of t is crowded, and face f is not kept there
abbrev pub lost_at_edge : List Float → List ℕ → List ℕ → ℕ → Step → Bool
lost_at_edge ps xs w f t = ltb 2 (length (users_at xs w t)) && not (kept_at ps xs w t f)

-- the faces that walk t, one for each entry
abbrev pub walkers_at : List ℕ → List ℕ → Step → List ℕ
walkers_at xs w t = takers_at (along true t) xs w (length w)

-- face f is among them after the first in rank
abbrev pub lost_at_step : List Float → List ℕ → List ℕ → ℕ → Step → Bool
lost_at_step ps xs w f t = has f (without (best (value_at ps xs w) (walkers_at xs w t)) (walkers_at xs w t))

-- faces with their words over points, and one of them
pub record FaceAsks (ps : List Float) (xs w : List ℕ) (f : ℕ) : Type 0 where
  pub asks : BestAsks ps xs w
  pub here : f < length w

-- the corners g are those of the face f, which stands and has t among its steps
pub record StepAsks (ps : List Float) (xs w : List ℕ) (g : Corners) (f : ℕ) (t : Step) : Type 0 where
  pub face : FaceAsks ps xs w f
  pub there : T (stands w f)
  pub seen : seen_as g f ≡ view xs w f
  pub own : T (any (along true t) (steps (view xs w f)))

-- words of faces that are gone or not, exchanged or not, and nothing else
pub record Plain (w : List ℕ) : Type 0 where
  pub low : (f : ℕ) → f < length w → get_or w f 0 < 4

-- what pass 2 asks
pub record WordsAsk (xs w : List ℕ) : Type 0 where
  pub worded : Worded xs w
  pub plain : Plain w

-- what the other passes ask
pub record PassAsks (ps : List Float) (xs w : List ℕ) : Type 0 where
  pub asks : BestAsks ps xs w
  pub plain : Plain w

-- f is a face, and is not marked yet
pub record MarkAsks (w : List ℕ) (f : ℕ) : Type 0 where
  pub here : f < length w
  pub low : get_or w f 0 < 4

-- f is marked if it leaves
pub record MarkedGives (w : List ℕ) (f : ℕ) (leaves : Bool) (w' : List ℕ) (r : ℕ) : Type 0 where
  pub words : w' ≡ cond leaves (set w f (get_or w f 0 + 4)) w
  pub number : r ≡ cond leaves 1 0

-- every face that the pass marks is marked, and no other, and they are counted
pub record MarkGives (m : List Face → ℕ → Bool) (xs w w' : List ℕ) (r : ℕ) : Type 0 where
  pub long : length w' ≡ length w
  pub words : (f : ℕ) → f < length w → get_or w' f 0 ≡ get_or w f 0 + cond (mark_at m xs w f) 4 0
  pub number : r ≡ count (m (viewed xs w)) (below (length (viewed xs w)))

-- the marked faces have left
pub record PassGives (m : List Face → ℕ → Bool) (xs w w' : List ℕ) (r : ℕ) : Type 0 where
  pub long : length w' ≡ length w
  pub plain : Plain w'
  pub words : (f : ℕ) → f < length w → get_or w' f 0 ≡ get_or w f 0 + cond (mark_at m xs w f) 1 0
  pub list : viewed xs w' ≡ leave (m (viewed xs w)) (viewed xs w)
  pub number : r ≡ count (m (viewed xs w)) (below (length (viewed xs w)))

-- only faces that stand are marked
pub record SweepAsks (w : List ℕ) : Type 0 where
  pub low : (f : ℕ) → f < length w → get_or w f 0 < 8
  pub even : (f : ℕ) → f < length w → 4 ≤ get_or w f 0 → get_or w f 0 % 2 ≡ 0

-- the marked ones are gone and not marked any more
pub record SweepGives (w w' : List ℕ) : Type 0 where
  pub long : length w' ≡ length w
  pub words : (f : ℕ) → f < length w → get_or w' f 0 ≡ cond (eqb (get_or w f 0 / 4 % 2) 1) (get_or w f 0 - 3) (get_or w f 0)
