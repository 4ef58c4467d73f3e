-- Components and the whole walk: what the functions ask and give. Definitions only.
use Rattle.std.specs.Prelude.{◌≡◌, false, List, ℕ, suc, ◌+◌, ◌*◌, ◌≤◌, ◌<◌, length, get_or, take}
use Rattle.rows.specs.Region.{part, Only, Filled}
use Rattle.rules.specs.Mesh.{Face, faces_of, flat_faces}
use Rattle.rules.specs.Pass4.{Oriented, run, started, begin, oriented}
use Rattle.leaving.specs.Pass.{standing}
use Rattle.table.specs.Table.{Tabled}
use Rattle.orienting.specs.Reaching.{turned_by}
use Rattle.reaching.specs.Walking.{walk_of}
use Rattle.crossing.specs.Crossing.{Going}

-- a face is on the stack
pub record PopAsks (w xs : List ℕ) (n : ℕ) : Type 0 where
  pub going : Going w xs n
  pub some : 0 < get_or w 0 0

-- it is taken off and crosses its edges: one turn of the rule's `run`
pub record PopGives (w xs : List ℕ) (n : ℕ) (w' : List ℕ) : Type 0 where
  pub only : Only 0 (3 + 11 * n) w w'
  pub going : Going w' xs n
  pub runs : (k : ℕ) → run k (walk_of (faces_of xs) n w').stack (walk_of (faces_of xs) n w') ≡ run (suc k) (walk_of (faces_of xs) n w).stack (walk_of (faces_of xs) n w)

-- a walk
pub record EmptyAsks (w xs : List ℕ) (n : ℕ) : Type 0 where
  pub going : Going w xs n

-- it is run
pub record EmptyGives (w xs : List ℕ) (n : ℕ) (w' : List ℕ) : Type 0 where
  pub only : Only 0 (3 + 11 * n) w w'
  pub going : Going w' xs n
  pub walk : walk_of (faces_of xs) n w' ≡ run n (walk_of (faces_of xs) n w).stack (walk_of (faces_of xs) n w)

-- face i is unvisited
pub record StartAsks (w : List ℕ) (n i : ℕ) : Type 0 where
  pub few : n ≤ 4194304
  pub fit : 3 + 11 * n ≤ length w
  pub here : i < n
  pub unseen : get_or w (3 + i) 0 ≡ 0

-- a component is started there
pub record StartGives (w : List ℕ) (n i : ℕ) (w' : List ℕ) : Type 0 where
  pub only : Only 0 (3 + 2 * n) w w'
  pub top : get_or w' 0 0 ≡ 1
  pub walk : (fs : List Face) → walk_of fs n w' ≡ started i (walk_of fs n w)

-- the walk of the work room and the number of marked components, as the rule has them
abbrev pub oriented_of : List ℕ → ℕ → List ℕ → ℕ → Oriented
oriented_of xs n w marks = record { walk = walk_of (faces_of xs) n w; marks = marks }

-- face i is next
pub record BeginAsks (w xs : List ℕ) (n i marks : ℕ) : Type 0 where
  pub going : Going w xs n
  pub here : i < n
  pub few : marks ≤ i

-- its component is walked
pub record BeginGives (w xs : List ℕ) (n i marks : ℕ) (w' : List ℕ) (r : ℕ) : Type 0 where
  pub only : Only 0 (3 + 11 * n) w w'
  pub going : Going w' xs n
  pub few : r ≤ marks + 1
  pub is : oriented_of xs n w' r ≡ begin (oriented_of xs n w marks) i

-- nothing is visited yet
pub record AllAsks (w xs : List ℕ) (n : ℕ) : Type 0 where
  pub going : Going w xs n
  pub blank : Filled 0 (3 + 11 * n) 0 w

-- the table of the faces, with m runs
pub record LayAsks (w xs : List ℕ) (n m : ℕ) : Type 0 where
  pub few : n ≤ 4194304
  pub long : length xs ≡ 3 * n
  pub points : ℕ
  pub tabled : Tabled w xs points false (3 + 14 * n) m

-- the walk may start, and the table still stands
pub record LayGives (w xs : List ℕ) (n : ℕ) (w' : List ℕ) : Type 0 where
  pub only : Only 0 (3 + 14 * n) w w'
  pub all : AllAsks w' xs n

-- all components are walked
pub record AllGives (w xs : List ℕ) (n : ℕ) (w' : List ℕ) (r : ℕ) : Type 0 where
  pub only : Only 0 (3 + 11 * n) w w'
  pub going : Going w' xs n
  pub few : r ≤ n
  pub is : oriented_of xs n w' r ≡ oriented (faces_of xs)

-- n faces and their states
pub record TurnAsks (xs w : List ℕ) (n : ℕ) : Type 0 where
  pub few : n ≤ 4194304
  pub fit : 3 * n ≤ length xs
  pub room : 3 + n ≤ length w

-- each face is under its state
pub record TurnGives (xs w : List ℕ) (n : ℕ) (xs' : List ℕ) : Type 0 where
  pub only : Only 0 (3 * n) xs xs'
  pub faces : take (3 * n) xs' ≡ flat_faces (turned_by (part w 3 n) (standing xs n))

-- what it takes of the work room
abbrev pub taken : ℕ → ℕ → ℕ
taken P n = 29 * n + 4 + P

-- the first half of pass 4: the faces as the rule has them, and its two counts, which are not more than the faces
pub record OrientGives (P : ℕ) (xs : List ℕ) (n : ℕ) (w xs' w' : List ℕ) (reoriented components : ℕ) : Type 0 where
  pub faces : take (3 * n) xs' ≡ flat_faces (oriented (standing xs n)).walk.faces
  pub exchanges : reoriented ≡ (oriented (standing xs n)).walk.exchanges
  pub marks : components ≡ (oriented (standing xs n)).marks
  pub few_exchanges : reoriented ≤ n
  pub few_marks : components ≤ n
  pub only_faces : Only 0 (3 * n) xs xs'
  pub only_work : Only 0 (taken P n) w w'
