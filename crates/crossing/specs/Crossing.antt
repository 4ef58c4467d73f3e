-- A face crosses its edges: what is known of edges that were crossed, and what the functions ask and give. xs are the corners of the n faces as
-- they were, w and w' the work room before and after. Definitions only.
use Rattle.std.specs.Prelude.{◌≡◌, true, false, not, cond, List, [], ◌∷◌, ℕ, ◌+◌, ◌-◌, ◌*◌, ◌/◌, ◌≤◌, ◌<◌, eqb, leb, length, get_or}
use Rattle.rows.specs.Region.{Only}
use Rattle.rules.specs.Lists.{filter, through}
use Rattle.rules.specs.Mesh.{Face, faces_of, face}
use Rattle.rules.specs.Steps.{Step, step, steps, edge, opposite, users, edges}
use Rattle.rules.specs.Pass4.{remark, across}
use Rattle.rule_laws.proofs.Rising.{All}
use Rattle.table.specs.Entries.{step_at}
use Rattle.table.specs.Table.{Tabled}
use Rattle.table.proofs.Places.{none}
use Rattle.orienting.specs.Reaching.{reach, other, lone}
use Rattle.reaching.specs.Walking.{walk_of, faces_in, Ready, RunAsks}

-- edge e, of number r, was crossed: all its users are visited, and it is noted who disagrees with a step along it, either way
pub record Crossed (w xs : List ℕ) (n : ℕ) (e : Step) (r : ℕ) : Type 0 where
  pub seen : All (λ i. get_or (walk_of (faces_of xs) n w).visited i false ≡ true) (users (faces_of xs) e)
  pub up : get_or w (3 + 2 * n + 3 * r + 1) 0 ≡ lone (n + 1) (walk_of (faces_of xs) n w).faces (opposite e) (users (faces_of xs) e)
  pub down : get_or w (3 + 2 * n + 3 * r + 2) 0 ≡ lone (n + 1) (walk_of (faces_of xs) n w).faces e (users (faces_of xs) e)

-- across the edge of entry `id` stands the face before q, and none besides it and the entry's own
pub record Leads (xs : List ℕ) (n id q : ℕ) : Type 0 where
  pub few : q ≤ n
  pub others : filter (λ k. not (eqb k (id / 3))) (users (faces_of xs) (edge (step_at (faces_of xs) id))) ≡ filter (λ k. not (eqb k (id / 3))) ((q - 1) ∷ [])

-- what is noted of the faces across edges is so
pub record Mated (w xs : List ℕ) (n : ℕ) : Type 0 where
  pub each : (id : ℕ) → id < 3 * n → (get_or w (3 + 11 * n + id) 0 ≡ 0 → ⊥) → Leads xs n id (get_or w (3 + 11 * n + id) 0)

-- the table of the faces, with m runs, and the row of the faces across
pub record MateAllAsks (w xs : List ℕ) (n m : ℕ) : Type 0 where
  pub few : n ≤ 4194304
  pub long : length xs ≡ 3 * n
  pub points : ℕ
  pub tabled : Tabled w xs points false (3 + 14 * n) m
  pub mated : Mated w xs n

-- and r is one of its runs
pub record MateAsks (w xs : List ℕ) (n r : ℕ) : Type 0 where
  pub runs : ℕ
  pub all : MateAllAsks w xs n runs
  pub here : r < runs

-- more may be noted
pub record MateGives (w xs : List ℕ) (n : ℕ) (w' : List ℕ) : Type 0 where
  pub only : Only (3 + 11 * n) (3 * n) w w'
  pub mated : Mated w' xs n

-- a sound walk, the table of the faces as they were, and what is noted of crossed edges and of the faces across
pub record Going (w xs : List ℕ) (n : ℕ) : Type 0 where
  pub ready : Ready w xs n
  pub points : ℕ
  pub runs : ℕ
  pub tabled : Tabled w xs points false (3 + 14 * n) runs
  pub mated : Mated w xs n
  pub crossed : (r : ℕ) → r < runs → (get_or w (3 + 2 * n + 3 * r) 0 ≡ 0 → ⊥) → Crossed w xs n (get_or (edges points (faces_of xs)) r none) r

-- a run of entries, and the number of an edge
pub record NoteAsks (w xs : List ℕ) (n r from to : ℕ) : Type 0 where
  pub run : RunAsks w xs n from to
  pub here : r < 3 * n

-- it is noted of edge r who disagrees, either way
pub record NoteGives (w xs : List ℕ) (n r from to low high : ℕ) (w' : List ℕ) : Type 0 where
  pub only : Only (3 + 2 * n) (9 * n) w w'
  pub others : (q : ℕ) → (q ≡ r → ⊥) → q < 3 * n → (get_or w' (3 + 2 * n + 3 * q) 0 ≡ get_or w (3 + 2 * n + 3 * q) 0) × (get_or w' (3 + 2 * n + 3 * q + 1) 0 ≡ get_or w (3 + 2 * n + 3 * q + 1) 0) × (get_or w' (3 + 2 * n + 3 * q + 2) 0 ≡ get_or w (3 + 2 * n + 3 * q + 2) 0)
  pub up : get_or w' (3 + 2 * n + 3 * r + 1) 0 ≡ lone (n + 1) (walk_of (faces_of xs) n w).faces (step high low) (faces_in w from to)
  pub down : get_or w' (3 + 2 * n + 3 * r + 2) 0 ≡ lone (n + 1) (walk_of (faces_of xs) n w).faces (step low high) (faces_in w from to)

-- the step from x to y is along edge r
pub record SettleAsks (w xs : List ℕ) (n r x y : ℕ) : Type 0 where
  pub going : Going w xs n
  pub here : r < going.runs
  pub along : get_or (edges going.points (faces_of xs)) r none ≡ edge (step x y)

-- its users are reached, and then it is crossed
pub record SettleGives (w xs : List ℕ) (n r x y : ℕ) (w' : List ℕ) : Type 0 where
  pub only : Only 0 (3 + 11 * n) w w'
  pub going : Going w' xs n
  pub walk : walk_of (faces_of xs) n w' ≡ through (reach (step x y)) (walk_of (faces_of xs) n w) (users (faces_of xs) (edge (step x y)))
  pub few : r < 3 * n
  pub crossed : Crossed w' xs n (edge (step x y)) r

-- r is the number of an edge
pub record WhoAsks (w : List ℕ) (n r : ℕ) : Type 0 where
  pub few : n ≤ 4194304
  pub fit : 3 + 11 * n ≤ length w
  pub here : r < 3 * n

-- who disagrees with a step from x to y, as it is noted
abbrev pub disagreeing : List ℕ → ℕ → ℕ → ℕ → ℕ → ℕ
disagreeing w n r x y = cond (leb x y) (get_or w (3 + 2 * n + 3 * r + 1) 0) (get_or w (3 + 2 * n + 3 * r + 2) 0)

-- j is a face
pub record MarkAsks (w : List ℕ) (n j : ℕ) : Type 0 where
  pub few : n ≤ 4194304
  pub fit : 3 + 11 * n ≤ length w
  pub here : j < n

-- the component is marked, if another than face j is known
pub record MarkGives (w : List ℕ) (n j known : ℕ) (w' : List ℕ) : Type 0 where
  pub only : Only 2 1 w w'
  pub walk : (fs : List Face) → walk_of fs n w' ≡ remark (not (other j known)) (walk_of fs n w)

-- face j is visited, and the step from x to y is along edge r
pub record ManyAsks (w xs : List ℕ) (n j r x y : ℕ) : Type 0 where
  pub settle : SettleAsks w xs n r x y
  pub here : j < n
  pub seen : get_or (walk_of (faces_of xs) n w).visited j false ≡ true

-- face j is visited, and the step from x to y is along the edge of its entry `id`
pub record CrossAsks (w xs : List ℕ) (n j id x y : ℕ) : Type 0 where
  pub going : Going w xs n
  pub here : j < n
  pub seen : get_or (walk_of (faces_of xs) n w).visited j false ≡ true
  pub entry : id < 3 * n
  pub own : id / 3 ≡ j
  pub along : edge (step_at (faces_of xs) id) ≡ edge (step x y)

-- face j crosses by that step; those visited stay so
pub record CrossGives (w xs : List ℕ) (n j x y : ℕ) (w' : List ℕ) : Type 0 where
  pub only : Only 0 (3 + 11 * n) w w'
  pub going : Going w' xs n
  pub walk : walk_of (faces_of xs) n w' ≡ across j (walk_of (faces_of xs) n w) (step x y)
  pub stay : get_or (walk_of (faces_of xs) n w').visited j false ≡ true

-- face j is visited, and its entries are under the edges of a, b and c
pub record ThreeAsks (w xs : List ℕ) (n j a b c first last : ℕ) : Type 0 where
  pub going : Going w xs n
  pub here : j < n
  pub seen : get_or (walk_of (faces_of xs) n w).visited j false ≡ true
  pub is_first : first < 3 * n
  pub is_last : last < 3 * n
  pub own_first : first / 3 ≡ j
  pub own_last : last / 3 ≡ j
  pub along_first : edge (step_at (faces_of xs) first) ≡ edge (step a b)
  pub along_second : edge (step_at (faces_of xs) (3 * j + 1)) ≡ edge (step b c)
  pub along_last : edge (step_at (faces_of xs) last) ≡ edge (step c a)

-- face j crosses them in order
pub record ThreeGives (w xs : List ℕ) (n j a b c : ℕ) (w' : List ℕ) : Type 0 where
  pub only : Only 0 (3 + 11 * n) w w'
  pub going : Going w' xs n
  pub walk : walk_of (faces_of xs) n w' ≡ through (across j) (walk_of (faces_of xs) n w) (step a b ∷ step b c ∷ step c a ∷ [])

-- face j is visited
pub record FaceAsks (w xs : List ℕ) (n j : ℕ) : Type 0 where
  pub going : Going w xs n
  pub here : j < n
  pub seen : get_or (walk_of (faces_of xs) n w).visited j false ≡ true

-- it crosses its edges as it stands
pub record FaceGives (w xs : List ℕ) (n j : ℕ) (w' : List ℕ) : Type 0 where
  pub only : Only 0 (3 + 11 * n) w w'
  pub going : Going w' xs n
  pub walk : walk_of (faces_of xs) n w' ≡ through (across j) (walk_of (faces_of xs) n w) (steps (face (walk_of (faces_of xs) n w).faces j))
