-- The scan of keys in rising order. c x is how many half entries x there are; a key k is the pair (k / P, k % P) of a vertex and another end.
use Rattle.std.specs.Prelude.{◌≡◌, Option, Some, None, Result, Ok, Err, Bool, cond, ◌&&◌, ℕ, zero, suc, ◌+◌, ◌*◌, ◌/◌, ◌%◌, ◌≤◌, ◌<◌, ◌^◌, eqb, leb, ltb}
use Rattle.refuse.specs.declared.Refusal.{Refusal}
use Rattle.refuse.specs.declared.Refusal.TheVariants.{CrowdedEdge}
use Rattle.halves.specs.declared.State.{State}

-- 1 for true
unfoldable pub one : Bool → ℕ
one b = cond b 1 0

-- the users of the edge of a key: of n half entries b begin at the vertex; a step from a vertex to itself has two of them
unfoldable pub users_of : ℕ → ℕ → ℕ → ℕ → ℕ
users_of v u n b = cond (eqb v u) b n

-- what a boundary edge adds to what the vertex begins and ends
unfoldable pub out_of : ℕ → ℕ → ℕ
out_of n b = cond (eqb n 1) b 0

-- the same of what it ends: a boundary edge from a vertex to itself ends there too
unfoldable pub into_of : ℕ → ℕ → ℕ → ℕ → ℕ
into_of v u n e = cond (eqb n 1) (cond (eqb v u) 1 e) 0

module _ (c : ℕ → ℕ) (P : ℕ) where
  -- the users of the edge of key k
  unfoldable pub users_at : ℕ → ℕ
  users_at k = users_of (k / P) (k % P) (c (2 * k) + c (2 * k + 1)) (c (2 * k))

  -- an edge stands at the key: it is used, and written from its lower end
  unfoldable pub edge_at : ℕ → ℕ
  edge_at k = one (leb (k / P) (k % P) && ltb 0 (c (2 * k) + c (2 * k + 1)))

  -- how many edges stand at keys below k
  unfoldable pub edges_to : ℕ → ℕ
  edges_to zero = 0
  edges_to (suc k) = edges_to k + edge_at k

  -- how many boundary edges begin at v, by keys below k, and how many end there
  unfoldable pub beginsTo : ℕ → ℕ → ℕ
  beginsTo zero v = 0
  beginsTo (suc k) v = beginsTo k v + cond (eqb (k / P) v) (out_of (users_at k) (c (2 * k))) 0

  -- how many end there
  unfoldable pub endsTo : ℕ → ℕ → ℕ
  endsTo zero v = 0
  endsTo (suc k) v = endsTo k v + cond (eqb (k / P) v) (into_of (k / P) (k % P) (users_at k) (c (2 * k + 1))) 0

-- as many begin as end, and that is 0 or 1
pub record Fair (b e : ℕ) : Type 0 where
  pub even : b ≡ e
  pub once : b ≤ 1

-- no edge at a key below k is crowded
pub record Calm (c : ℕ → ℕ) (P k : ℕ) : Type 0 where
  pub few : (j : ℕ) → j < k → j / P ≤ j % P → users_at c P j ≤ 2

-- the vertices below `at` are fair
pub record AllFair (c : ℕ → ℕ) (P k at : ℕ) : Type 0 where
  pub fair : (w : ℕ) → w < at → Fair (beginsTo c P k w) (endsTo c P k w)

-- v is the first of them that is not
pub record Unfair (c : ℕ → ℕ) (P k at v : ℕ) : Type 0 where
  pub passed : v < at
  pub before : AllFair c P k v
  pub unfair : Fair (beginsTo c P k v) (endsTo c P k v) → ⊥

-- the first that is not, or none
abbrev pub Judged : (ℕ → ℕ) → ℕ → ℕ → ℕ → Option ℕ → Type 0
Judged c P k at (Some v) = Unfair c P k at v
Judged c P k at None = AllFair c P k at

-- what the scan knows when it has passed the keys below k
pub record Upto (c : ℕ → ℕ) (P k : ℕ) (t : State) : Type 0 where
  pub calm : Calm c P k
  pub counted : t.unique ≡ edges_to c P k
  pub at_most : t.at ≤ P
  pub near : t.at * P ≤ k
  pub begun : t.begins ≡ beginsTo c P k t.at
  pub ended : t.ends ≡ endsTo c P k t.at
  pub none_begun : (w : ℕ) → t.at < w → beginsTo c P k w ≡ 0
  pub none_ended : (w : ℕ) → t.at < w → endsTo c P k w ≡ 0
  pub judged : Judged c P k t.at t.bad

-- the key of the first crowded edge, of which so many edges stand before it
pub record Crowded (c : ℕ → ℕ) (P unique : ℕ) : Type 0 where
  pub key : ℕ
  pub calm : Calm c P key
  pub within : key < P * P
  pub lower : key / P ≤ key % P
  pub many : 2 < users_at c P key
  pub counted : unique ≡ edges_to c P key

-- the refusal is 7 with its position
pub record Met (c : ℕ → ℕ) (P : ℕ) (e : Refusal) : Type 0 where
  pub unique : ℕ
  pub is : e ≡ CrowdedEdge unique
  pub crowded : Crowded c P unique

-- the scan goes on, or it has met a crowded edge
abbrev pub Told : (ℕ → ℕ) → ℕ → ℕ → Result State Refusal → Type 0
Told c P k (Ok t) = Upto c P k t
Told c P k (Err e) = Met c P e

-- its numbers are at most k, so that none wraps
pub record Small (k : ℕ) (t : State) : Type 0 where
  pub unique : t.unique ≤ k
  pub begins : t.begins ≤ k
  pub ends : t.ends ≤ k

-- the refusal is 7, and its position is at most k
pub record Early (k : ℕ) (e : Refusal) : Type 0 where
  pub unique : ℕ
  pub is : e ≡ CrowdedEdge unique
  pub most : unique ≤ k

-- the numbers are small where the scan goes on, and the position where it has met a crowded edge
abbrev pub SmallIn : ℕ → Result State Refusal → Type 0
SmallIn k (Ok t) = Small k t
SmallIn k (Err e) = Early k e

-- no key is passed
pub record StartGives (t : State) : Type 0 where
  pub small : Small 0 t
  pub upto : (c : ℕ → ℕ) (P : ℕ) → Upto c P 0 t

-- the vertex t.at is not fair, or it is
abbrev pub FaultGives : State → Option ℕ → Type 0
FaultGives t (Some v) = (v ≡ t.at) × (Fair t.begins t.ends → ⊥)
FaultGives t None = Fair t.begins t.ends

-- the vertex v is the next: the one before it is judged
pub record CloseGives (v : ℕ) (t r : State) : Type 0 where
  pub unique : r.unique ≡ t.unique
  pub at : r.at ≡ v
  pub begins : r.begins ≤ t.begins
  pub ends : r.ends ≤ t.ends
  pub upto : (c : ℕ → ℕ) (P k : ℕ) → v * P ≤ k → v ≤ P → t.at ≤ v → Upto c P k t → Upto c P k r

-- a key with n half entries, b of them even
pub record VisitAsks (P k n b : ℕ) (t : State) : Type 0 where
  pub points : 0 < P
  pub below : k < P * P
  pub fits : k + 1 < 2 ^ 64
  pub fewer : b ≤ n
  pub small : Small k t

-- the key is passed
pub record VisitGives (P k n b : ℕ) (t : State) (r : Result State Refusal) : Type 0 where
  pub small : SmallIn (k + 1) r
  pub told : (c : ℕ → ℕ) → b ≡ c (2 * k) → n ≡ b + c (2 * k + 1) → 0 < n → Upto c P k t → Told c P (k + 1) r
