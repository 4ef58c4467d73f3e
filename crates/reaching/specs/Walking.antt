-- The walk, as the work room has it, and what the functions ask and give. xs are the corners of the n faces as they were. Definitions only.
use Rattle.std.specs.Prelude.{◌≡◌, not, cond, List, [], ◌∷◌, map, ℕ, zero, suc, ◌+◌, ◌-◌, ◌*◌, ◌/◌, ◌≤◌, ◌<◌, eqb, length, get_or}
use Rattle.rows.specs.Region.{part, Only}
use Rattle.rules.specs.Lists.{filter, through}
use Rattle.rules.specs.Mesh.{Face, faces_of, face}
use Rattle.rules.specs.Steps.{Step, step, walks}
use Rattle.rules.specs.Pass4.{Walk, visit, meet}
use Rattle.orienting.specs.Reaching.{reach, sole, turned_by}
use Rattle.orienting.proofs.Room.{Sound}

-- the k numbers from a on, the last first
unfoldable pub stack_of : List ℕ → ℕ → ℕ → List ℕ
stack_of w a zero = []
stack_of w a (suc k) = get_or w (a + k) 0 ∷ stack_of w a k

-- the walk over n faces that the work room w has
unfoldable pub walk_of : List Face → ℕ → List ℕ → Walk
walk_of fs n w =
    record {
      faces = turned_by (part w 3 n) fs;
      visited = map (λ s. not (eqb s 0)) (part w 3 n);
      stack = stack_of w (3 + n) (get_or w 0 0);
      exchanges = get_or w 1 0;
      mark = not (eqb (get_or w 2 0) 0);
    }

-- the faces are n, and their rows are in the work room
pub record Fits (w xs : List ℕ) (n : ℕ) : Type 0 where
  pub long : length xs ≡ 3 * n
  pub few : n ≤ 4194304
  pub fit : 3 + 11 * n ≤ length w

-- the walk is sound, and so is its stack
pub record Ready (w xs : List ℕ) (n : ℕ) : Type 0 where
  pub fits : Fits w xs n
  pub top : get_or w 0 0 ≤ n
  pub sound : Sound n (walk_of (faces_of xs) n w)

-- face i is one of n
pub record StandsAsks (w xs : List ℕ) (n i : ℕ) : Type 0 where
  pub fits : Fits w xs n
  pub here : i < n

-- face i is unvisited, its state is to be 1 or 2, and there is room on the stack
pub record VisitAsks (w : List ℕ) (n i state : ℕ) : Type 0 where
  pub few : n ≤ 4194304
  pub fit : 3 + 11 * n ≤ length w
  pub here : i < n
  pub top : get_or w 0 0 < n
  pub turns : get_or w 1 0 < n
  pub unseen : get_or w (3 + i) 0 ≡ 0
  pub least : 1 ≤ state
  pub most : state ≤ 2

-- it is visited, and exchanged where its state is 2
pub record VisitGives (w : List ℕ) (n i state : ℕ) (w' : List ℕ) : Type 0 where
  pub only : Only 0 (3 + 2 * n) w w'
  pub top : get_or w' 0 0 ≡ get_or w 0 0 + 1
  pub walk : (fs : List Face) → walk_of fs n w' ≡ visit (not (eqb state 2)) i (walk_of fs n w)

-- face i is one of n in a sound walk
pub record ReachAsks (w xs : List ℕ) (n i : ℕ) : Type 0 where
  pub ready : Ready w xs n
  pub here : i < n

-- it is reached across the step from x to y
pub record ReachGives (w xs : List ℕ) (n i x y : ℕ) (w' : List ℕ) : Type 0 where
  pub only : Only 0 (3 + 2 * n) w w'
  pub ready : Ready w' xs n
  pub walk : walk_of (faces_of xs) n w' ≡ reach (step x y) (walk_of (faces_of xs) n w) i

-- the faces of entries
abbrev pub faces_in : List ℕ → ℕ → ℕ → List ℕ
faces_in w from to = map (λ id. id / 3) (part w from (to - from))

-- a run of entries stands behind the walk's rows
pub record RunAsks (w xs : List ℕ) (n from to : ℕ) : Type 0 where
  pub ready : Ready w xs n
  pub rising : from ≤ to
  pub behind : 3 + 11 * n ≤ from
  pub inside : to ≤ length w
  pub entries : (k : ℕ) → from ≤ k → k < to → get_or w k 0 < 3 * n

-- its faces are reached
pub record ReachRunGives (w xs : List ℕ) (n from to x y : ℕ) (w' : List ℕ) : Type 0 where
  pub only : Only 0 (3 + 2 * n) w w'
  pub ready : Ready w' xs n
  pub walk : walk_of (faces_of xs) n w' ≡ through (reach (step x y)) (walk_of (faces_of xs) n w) (faces_in w from to)

-- face j, which crosses by the step from x to y, has met face i, unless that is itself
pub record MeetGives (w xs : List ℕ) (n j i x y : ℕ) (w' : List ℕ) : Type 0 where
  pub only : Only 0 (3 + 2 * n) w w'
  pub ready : Ready w' xs n
  pub walk : walk_of (faces_of xs) n w' ≡ through (meet (step x y)) (walk_of (faces_of xs) n w) (filter (λ k. not (eqb k j)) (i ∷ []))

-- what is known once face i is met: nothing new if it makes the step t
abbrev pub met : List Face → ℕ → Step → ℕ → ℕ → ℕ
met fs n t known i = cond (walks (face fs i) t) known (sole (n + 1) known i)
