-- Parents and roots: what the functions that know nothing of runs ask and give. Where a record of asks has a field that no parameter fixes, the
-- function gives for each value of it. Definitions only.
use Rattle.std.specs.Prelude.{◌≡◌, cond, List, ℕ, ◌+◌, ◌^◌, ◌≤◌, ◌<◌, min, max, eqb, length, get_or}
use Rattle.rows.specs.Region.{Only, Holds}

-- the parent of x, where the parents stand from `labels` on
abbrev pub parent : List ℕ → ℕ → ℕ → ℕ
parent w labels x = get_or w (labels + x) 0

-- The parents of 0 .. n - 1: none comes after its child, and `root x` is where they lead from x.
pub record Forest (labels n : ℕ) (root : ℕ → ℕ) (w : List ℕ) : Type 0 where
  pub few : n ≤ 2 ^ 32
  pub fit : labels + n ≤ length w
  pub down : (x : ℕ) → x < n → parent w labels x ≤ x
  pub along : (x : ℕ) → x < n → root (parent w labels x) ≡ root x
  pub fixed : (x : ℕ) → x < n → parent w labels x ≡ x → root x ≡ x

pub record OwnAsks (w : List ℕ) (labels n : ℕ) : Type 0 where
  pub few : n ≤ 2 ^ 32
  pub fit : labels + n ≤ length w

pub record OwnGives (w : List ℕ) (labels n : ℕ) (w' : List ℕ) : Type 0 where
  pub only : Only labels n w w'
  pub own : Holds labels n (λ i. i) w'

pub record FindAsks (w : List ℕ) (labels x : ℕ) : Type 0 where
  pub n : ℕ
  pub root : ℕ → ℕ
  pub forest : Forest labels n root w
  pub is_thing : x < n

pub record FindGives {w : List ℕ} {labels x : ℕ} (q : FindAsks w labels x) (w' : List ℕ) (r : ℕ) : Type 0 where
  pub only : Only labels q.n w w'
  pub forest : Forest labels q.n q.root w'
  pub is_root : r ≡ q.root x

pub record JoinAsks (w : List ℕ) (labels x y : ℕ) : Type 0 where
  pub n : ℕ
  pub root : ℕ → ℕ
  pub forest : Forest labels n root w
  pub is_thing : x < n
  pub is_thing_2 : y < n

-- the roots when the root `high` has got the parent `low`
abbrev pub linked : (ℕ → ℕ) → ℕ → ℕ → ℕ → ℕ
linked root low high z = cond (eqb (root z) high) low (root z)

-- the roots when x and y have got one root, the lower of theirs
abbrev pub merged : (ℕ → ℕ) → ℕ → ℕ → ℕ → ℕ
merged root x y = linked root (min (root x) (root y)) (max (root x) (root y))

pub record JoinGives {w : List ℕ} {labels x y : ℕ} (q : JoinAsks w labels x y) (w' : List ℕ) : Type 0 where
  pub only : Only labels q.n w w'
  pub forest : Forest labels q.n (merged q.root x y) w'

pub record PointAsks (w : List ℕ) (labels n : ℕ) : Type 0 where
  pub root : ℕ → ℕ
  pub forest : Forest labels n root w

pub record PointGives {w : List ℕ} {labels n : ℕ} (q : PointAsks w labels n) (w' : List ℕ) : Type 0 where
  pub only : Only labels n w w'
  pub roots : Holds labels n q.root w'
