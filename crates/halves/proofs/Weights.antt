-- The small definitions of `specs/Scan.antt`, by cases. Assumes nothing.
use mathlib.Core.Path.{◌≡◌, refl}
use mathlib.Core.Bool.{Bool, true, false, ◌&&◌}
use Prim.Native.Nat.{ℕ, ◌-◌, ◌≤◌, ◌<◌}
use native.Mathlib.Omega.{arith}
use native.Mathlib.Decide.{ℕ_discrete}
use borrow.Author.Tests.{eq-eqb, ne_eqb, le-leb, leb-true, ltb-true, ltb-false}
use lib.Dec.{leb, ltb}
use Rattle.halves.specs.Scan.{one, users_of, out_of, into_of}

module _ (v u n b : ℕ) where
  -- a step from a vertex to itself has two half entries there
  pub users_same : v ≡ u → users_of v u n b ≡ b
  unfolding users_of
  users_same e = rw (eq-eqb v u e)

  -- any other has one at each end
  pub users_other : (v ≡ u → ⊥) → users_of v u n b ≡ n
  unfolding users_of
  users_other e = rw (ne_eqb v u e)

-- a boundary edge counts
pub out_one : (n b : ℕ) → n ≡ 1 → out_of n b ≡ b
unfolding out_of
out_one n b e = rw (eq-eqb n 1 e)

-- another does not
pub out_none : (n b : ℕ) → (n ≡ 1 → ⊥) → out_of n b ≡ 0
unfolding out_of
out_none n b e = rw (ne_eqb n 1 e)

-- so where it ends at its own beginning
pub into_same : (v u n x : ℕ) → n ≡ 1 → v ≡ u → into_of v u n x ≡ 1
unfolding into_of
into_same v u n x e f = rw (eq-eqb n 1 e, eq-eqb v u f)

-- or elsewhere
pub into_other : (v u n x : ℕ) → n ≡ 1 → (v ≡ u → ⊥) → into_of v u n x ≡ x
unfolding into_of
into_other v u n x e f = rw (eq-eqb n 1 e, ne_eqb v u f)

-- but only a boundary edge
pub into_none : (v u n x : ℕ) → (n ≡ 1 → ⊥) → into_of v u n x ≡ 0
unfolding into_of
into_none v u n x e = rw (ne_eqb n 1 e)

-- 1 for true
pub one_true : one true ≡ 1
unfolding one
one_true = refl

-- 0 for false
pub one_false : one false ≡ 0
unfolding one
one_false = refl

-- never more
pub one_most : (b : Bool) → one b ≤ 1
unfolding one
one_most true = omega arith
one_most false = omega arith

-- an edge that is not crowded
pub crowds_not : (v u n : ℕ) → (leb v u && ltb 2 n) ≡ false → v ≤ u → n ≤ 2
crowds_not v u n e h = ltb-false 2 n (rw (le-leb v u h) at e)

-- a crowded one is written from its lower end
pub crowds_lower : (v u n : ℕ) → (leb v u && ltb 2 n) ≡ true → v ≤ u
crowds_lower v u n e = leb-true v u (go (leb v u) (ltb 2 n) e)
  where
    go : (x y : Bool) → (x && y) ≡ true → x ≡ true
    go true y f = refl
    go false y f = f

-- and has more than two users
pub crowds_many : (v u n : ℕ) → (leb v u && ltb 2 n) ≡ true → 2 < n
crowds_many v u n e = ltb-true 2 n (go (leb v u) (ltb 2 n) e)
  where
    go : (x y : Bool) → (x && y) ≡ true → y ≡ true
    go true y f = f
    go false true f = refl
    go false false f = f

-- what one key adds is at most 1
pub out_most : (v u n b : ℕ) → b ≤ n → out_of (users_of v u n b) b ≤ 1
out_most v u n b h = go (ℕ_discrete v u) (ℕ_discrete (users_of v u n b) 1)
  where
    go : Dec (v ≡ u) → Dec (users_of v u n b ≡ 1) → out_of (users_of v u n b) b ≤ 1
    go (yes e) (yes f) = omega (arith, out_one (users_of v u n b) b f, users_same v u n b e)
    go (no e) (yes f) = omega (arith, out_one (users_of v u n b) b f, users_other v u n b e)
    go d (no f) = omega (arith, out_none (users_of v u n b) b f)

-- so of what ends there
pub into_most : (v u n b : ℕ) → b ≤ n → into_of v u (users_of v u n b) (n - b) ≤ 1
into_most v u n b h = go (ℕ_discrete v u) (ℕ_discrete (users_of v u n b) 1)
  where
    go : Dec (v ≡ u) → Dec (users_of v u n b ≡ 1) → into_of v u (users_of v u n b) (n - b) ≤ 1
    go (yes e) (yes f) = omega (arith, into_same v u (users_of v u n b) (n - b) f e)
    go (no e) (yes f) = omega (arith, into_other v u (users_of v u n b) (n - b) f e, users_other v u n b e)
    go d (no f) = omega (arith, into_none v u (users_of v u n b) (n - b) f)
