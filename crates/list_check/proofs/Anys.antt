-- Tests over lists that were filtered or changed, and tests over faces. Assumes nothing.
use mathlib.Core.Path.{◌≡◌, refl, ap}
use mathlib.Core.Bool.{Bool, true, false, cond, ◌&&◌, ◌||◌}
use mathlib.Core.List.{List, [], ◌∷◌, map}
use Prim.Native.Nat.{ℕ, ◌<◌}
use native.Mathlib.Decide.{ℕ_discrete}
use native.Mathlib.Omega.{arith}
use borrow.Author.Tests.{ne_eqb}
use lib.Dec.{eqb}
use Rattle.rules.specs.Lists.{any, has, filter}
use Rattle.rules.specs.Mesh.{Face, corners, exchanged, renamed}

module _ {A : Type 0} where
  -- of what a filter leaves
  pub any_filter : (p q : A → Bool) (xs : List A) → any p (filter q xs) ≡ any (λ x. q x && p x) xs
  unfolding any filter
  any_filter p q [] = refl
  any_filter p q (x ∷ xs) = go (q x) (any_filter p q xs)
    where
      go : (t : Bool) → any p (filter q xs) ≡ any (λ y. q y && p y) xs → any p (cond t (x ∷ filter q xs) (filter q xs)) ≡ ((t && p x) || any (λ y. q y && p y) xs)
      go true r = ap (λ (b : Bool). p x || b) r
      go false r = r

  -- with one more condition
  pub any_when : (c : Bool) (p q : A → Bool) → ((x : A) → q x ≡ (p x && c)) → (xs : List A) → any q xs ≡ (any p xs && c)
  unfolding any
  any_when c p q h [] = refl
  any_when c p q h (x ∷ xs) = rw (h x, any_when c p q h xs) (shared (p x) (any p xs) c)
    where
      shared : (a b c : Bool) → ((a && c) || (b && c)) ≡ ((a || b) && c)
      shared true true true = refl
      shared true true false = refl
      shared true false true = refl
      shared true false false = refl
      shared false b c = refl

  -- by tests that agree
  pub any_same : (p q : A → Bool) → ((x : A) → q x ≡ p x) → (xs : List A) → any q xs ≡ any p xs
  unfolding any
  any_same p q h [] = refl
  any_same p q h (x ∷ xs) = rw (h x, any_same p q h xs) refl

  -- of a list with none that passes
  pub any_none : (p : A → Bool) → ((x : A) → p x ≡ false) → (xs : List A) → any p xs ≡ false
  unfolding any
  any_none p h [] = refl
  any_none p h (x ∷ xs) = rw (h x, any_none p h xs) refl

module _ {A B : Type 0} where
  -- of changed elements
  pub any_map : (p : B → Bool) (h : A → B) (xs : List A) → any p (map h xs) ≡ any (λ x. p (h x)) xs
  unfolding any
  any_map p h [] = refl
  any_map p h (x ∷ xs) = ap (λ (b : Bool). p (h x) || b) (any_map p h xs)

-- ---- tests

pub and_true : (b : Bool) → (b && true) ≡ b
and_true true = refl
and_true false = refl

pub and_false : (b : Bool) → (b && false) ≡ false
and_false true = refl
and_false false = refl

-- a test of the number o, where it is g
pub at_number : (g o : ℕ) (c : ℕ → Bool) (r : Bool) → ((eqb g o && r) && c o) ≡ ((eqb g o && r) && c g)
at_number g o c r = go (ℕ_discrete g o)
  where
    go : Dec (g ≡ o) → ((eqb g o && r) && c o) ≡ ((eqb g o && r) && c g)
    go (yes e) = rw e refl
    go (no n) = rw (ne_eqb g o n) refl

-- ---- corners

-- exchanged corners are the same
pub has_exchanged : (v : ℕ) (g : Face) → has v (corners (exchanged g)) ≡ has v (corners g)
unfolding has any exchanged
has_exchanged v g = go (eqb v g.a) (eqb v g.b) (eqb v g.c)
  where
    go : (a b c : Bool) → (a || (c || (b || false))) ≡ (a || (b || (c || false)))
    go true b c = refl
    go false true true = refl
    go false true false = refl
    go false false c = refl

-- corners under new numbers, where each is as before or not
pub has_renamed : (v : ℕ) (r : ℕ → ℕ) (t : Bool) → ((x : ℕ) → eqb v (r x) ≡ (eqb v x && t)) → (g : Face) → has v (corners (renamed r g)) ≡ (has v (corners g) && t)
unfolding has any renamed
has_renamed v r t h g = rw (h g.a, h g.b, h g.c) (go (eqb v g.a) (eqb v g.b) (eqb v g.c) t)
  where
    go : (a b c t : Bool) → ((a && t) || ((b && t) || ((c && t) || false))) ≡ ((a || (b || (c || false))) && t)
    go true true true true = refl
    go true true true false = refl
    go true true false true = refl
    go true true false false = refl
    go true false true true = refl
    go true false true false = refl
    go true false false true = refl
    go true false false false = refl
    go false true true true = refl
    go false true true false = refl
    go false true false true = refl
    go false true false false = refl
    go false false true true = refl
    go false false true false = refl
    go false false false true = refl
    go false false false false = refl

-- a point that is no corner: it is not below the bound that all are
pub has_none : (v : ℕ) (g : Face) → g.a < v → g.b < v → g.c < v → has v (corners g) ≡ false
unfolding has any
has_none v g a b c =
    rw (ne_eqb v g.a (λ e. absurd (omega arith)), ne_eqb v g.b (λ e. absurd (omega arith)), ne_eqb v g.c (λ e. absurd (omega arith))) refl
