-- Corner after corner in face order: which are flagged, which lead a group that is not the first of its point, and what is told so far. Definitions only.
use Rattle.std.specs.Prelude.{◌≡◌, Bool, true, false, ◌&&◌, ◌||◌, cond, List, ℕ, suc, ◌+◌, ◌*◌, ◌/◌, ◌%◌, ◌≤◌, ◌<◌, T, eqb, ltb, length, get_or}
use Rattle.rules.specs.Lists.{below, filter, count, any, each, has}
use Rattle.rules.specs.Mesh.{Face, corners}
use Rattle.rules.specs.State.{State}
use Rattle.rules.specs.Groups.{group, leads}
use Rattle.rules.specs.Pass5.{pass5}
use Rattle.rules.specs.Mending.{line_text, lines5}
use Rattle.rule_laws.proofs.Once.{Inside}
use Rattle.splitting.specs.Corners.{corner_at, joined_at}
use Rattle.fan_laws.specs.Sums.{sum_of, field}
use Rattle.fan_laws.specs.Opening.{opens, single, giver, weight}
use Rattle.face_words.specs.Words.{stands, view, viewed, place}
use Rattle.face_words.specs.Views.{Worded}
use Rattle.searched_fans.specs.Reaching.{state}

-- the flag of corner k
unfoldable pub bit_of : ℕ → ℕ
bit_of k = cond (eqb k 0) 16 (cond (eqb k 1) 32 64)

-- corner k is flagged in a word
unfoldable pub flagged_in : ℕ → ℕ → Bool
flagged_in x k = eqb (x / bit_of k % 2) 1

-- corner k of three
unfoldable pub pick_of : ℕ → ℕ → ℕ → ℕ → ℕ
pick_of a b c k = cond (eqb k 0) a (cond (eqb k 1) b c)

-- one of the corners before corner k is v
unfoldable pub earlier_in : ℕ → ℕ → ℕ → ℕ → Bool
earlier_in a b k v = cond (eqb k 0) false (eqb a v || cond (eqb k 1) false (eqb b v))

-- face g stands and has v
unfoldable pub has_point : List ℕ → List ℕ → ℕ → ℕ → Bool
has_point xs w v g = stands w g && has v (corners (view xs w g))

-- a face before f stands and has v
unfoldable pub met_before : List ℕ → List ℕ → ℕ → ℕ → Bool
met_before xs w v f = any (has_point xs w v) (below f)

-- g is a face
pub record HasAsks (xs w : List ℕ) (g : ℕ) : Type 0 where
  pub worded : Worded xs w
  pub here : g < length w

-- 1 if it is so
abbrev pub one : Bool → ℕ
one b = cond b 1 0

-- corner id is in the group of corner y
unfoldable pub same_group : List Face → ℕ → ℕ → Bool
same_group fs y id = has id (group (joined_at fs) (3 * length fs) y)

-- corner id is in a group that a corner before E leads
unfoldable pub done_to : List Face → ℕ → ℕ → Bool
done_to fs E id = any (λ y. leads (joined_at fs) (3 * length fs) y && same_group fs y id) (below E)

-- corner id stands before E and opens a group
unfoldable pub open_to : List Face → ℕ → ℕ → Bool
open_to fs E id = ltb id E && opens fs id

-- three flags of the face at place p
unfoldable pub three_of : (ℕ → Bool) → ℕ → ℕ
three_of t p = 16 * one (t (3 * p)) + 32 * one (t (3 * p + 1)) + 64 * one (t (3 * p + 2))

-- what its word has more when the corners before E have been gone through
unfoldable pub word_to : List Face → ℕ → ℕ → ℕ
word_to fs E p = three_of (done_to fs E) p + 8 * three_of (open_to fs E) p

-- the words then, for the words w₀ at first
pub record Stage (xs w₀ : List ℕ) (E : ℕ) (w : List ℕ) : Type 0 where
  pub long : length w ≡ length w₀
  pub at : (g : ℕ) → g < length w₀ → get_or w g 0 ≡ get_or w₀ g 0 + cond (stands w₀ g) (word_to (viewed xs w₀) E (place w₀ g)) 0

-- what is told then, for P points
pub record Counted (fs : List Face) (P E splits bytes : ℕ) : Type 0 where
  pub many : splits ≡ count (opens fs) (below E)
  pub sum : bytes ≡ sum_of (weight fs) (filter (opens fs) (below E)) + sum_of (λ j. field (P + j)) (below splits)
  pub few : bytes ≤ 12000000 * E

-- v was met before corner k of face f
unfoldable pub met_at : List ℕ → List ℕ → ℕ → ℕ → ℕ → Bool
met_at xs w v f k = met_before xs w v f || earlier_in (view xs w f).a (view xs w f).b k v

-- a face with three equal corners takes the point that is split off for its corner k: for corner 0, or for corner 1 where corner 0 opens no group
unfoldable pub gives_in : ℕ → ℕ → Bool
gives_in x k = cond (eqb k 0) true (cond (eqb k 1) (eqb (x / 128 % 2) 0) false)

-- the number of corner k of face f among the corners of the faces that stand
abbrev pub id_of : List ℕ → ℕ → ℕ → ℕ
id_of w f k = 3 * place w f + k

-- corner k of face f, which stands, is v; no search is under way
pub record CloseAsks (xs w : List ℕ) (f k v : ℕ) : Type 0 where
  pub worded : Worded xs w
  pub few : (g : ℕ) → g < length w → get_or w g 0 < 1100
  pub fresh : (g : ℕ) → g < length w → state w g ≡ 0
  pub here : f < length w
  pub standing : T (stands w f)
  pub corner : k < 3
  pub point : corner_at (viewed xs w) (id_of w f k) ≡ v
  pub giving : T (opens (viewed xs w) (id_of w f k)) → T (single (view xs w f)) → gives_in (get_or w f 0) k ≡ eqb (id_of w f k) (giver (viewed xs w) (place w f))

-- its group is flagged
pub record CloseGives (xs w : List ℕ) (f k : ℕ) (w' : List ℕ) (r : ℕ) : Type 0 where
  pub long : length w' ≡ length w
  pub at : (g : ℕ) → g < length w → get_or w' g 0 ≡ get_or w g 0 + cond (stands w g) (three_of (same_group (viewed xs w) (id_of w f k)) (place w g)) 0
  pub bytes : T (opens (viewed xs w) (id_of w f k)) → 2 + field (corner_at (viewed xs w) (id_of w f k)) + r ≡ weight (viewed xs w) (id_of w f k)
  pub most : r ≤ 11534336

-- words that say only which faces stand and how, of corners below P
pub record SplitAsks (xs w : List ℕ) (P : ℕ) : Type 0 where
  pub worded : Worded xs w
  pub plain : (g : ℕ) → g < length w → get_or w g 0 < 4
  pub points : P ≤ 4194304

-- the corners before corner k of face f have been gone through
pub record CornerAsks (xs w : List ℕ) (f k P splits bytes : ℕ) : Type 0 where
  pub base : List ℕ
  pub split : SplitAsks xs base P
  pub here : f < length base
  pub standing : T (stands base f)
  pub corner : k < 3
  pub stage : Stage xs base (id_of base f k) w
  pub counted : Counted (viewed xs base) P (id_of base f k) splits bytes

-- and now this one
pub record CornerGives {xs w : List ℕ} {f k P splits bytes : ℕ} (q : CornerAsks xs w f k P splits bytes) (w' : List ℕ) (splits' bytes' : ℕ) : Type 0 where
  pub stage : Stage xs q.base (suc (id_of q.base f k)) w'
  pub counted : Counted (viewed xs q.base) P (suc (id_of q.base f k)) splits' bytes'

-- the corners of the faces before f have been gone through
pub record FaceAsks (xs w : List ℕ) (f P splits bytes : ℕ) : Type 0 where
  pub base : List ℕ
  pub split : SplitAsks xs base P
  pub here : f < length base
  pub standing : T (stands base f)
  pub stage : Stage xs base (3 * place base f) w
  pub counted : Counted (viewed xs base) P (3 * place base f) splits bytes

-- and now those of f
pub record FaceGives {xs w : List ℕ} {f P splits bytes : ℕ} (q : FaceAsks xs w f P splits bytes) (w' : List ℕ) (splits' bytes' : ℕ) : Type 0 where
  pub stage : Stage xs q.base (3 * place q.base f + 3) w'
  pub counted : Counted (viewed xs q.base) P (3 * place q.base f + 3) splits' bytes'

-- how many points are split off, and the length of the lines; every corner that stands is flagged, and those that open a group are marked
pub record SplitGives (xs w : List ℕ) (P : ℕ) (w' : List ℕ) (splits bytes : ℕ) : Type 0 where
  pub stage : Stage xs w (3 * length (viewed xs w)) w'
  pub many : (m : State) → m.faces ≡ viewed xs w → length m.points ≡ P → Inside P (viewed xs w) → length (pass5 m).points ≡ P + splits
  pub told : (m : State) → m.faces ≡ viewed xs w → length m.points ≡ P → Inside P (viewed xs w) → bytes ≡ length (each line_text (lines5 m))
