-- One number tells whether some other face was met. Assumes nothing.
use mathlib.Core.Path.{◌≡◌, refl, sym, ap, ◌∙◌}
use mathlib.Core.Bool.{Bool, true, false, not, ◌||◌, cond, or_assoc, or_self, or-false}
use mathlib.Core.List.{List, [], ◌∷◌}
use Prim.Native.Nat.{ℕ, zero, suc, ◌<◌}
use native.Mathlib.Omega.{arith}
use native.Mathlib.Decide.{ℕ_discrete}
use borrow.Author.Tests.{eq-eqb, ne_eqb}
use lib.Dec.{eqb, eqb-suc-zero, eqb-suc-suc}
use Rattle.rules.specs.Lists.{filter, any, all, through}
use Rattle.orienting.specs.Reaching.{sole, other}

-- after face n is met, some other than j was met before or n is another
sole_other : (many j c n : ℕ) → suc j < many → other j (sole many c n) ≡ (other j c || not (eqb n j))
unfolding sole other
sole_other many j zero n h = rw (ne_eqb (suc n) 0 (λ z. absurd (omega arith)), eqb-suc-suc n j)
sole_other many j (suc p) n h = go (ℕ_discrete p n) (ℕ_discrete p j) (ℕ_discrete n j)
  where
    go : Dec (p ≡ n) → Dec (p ≡ j) → Dec (n ≡ j) → other j (sole many (suc p) n) ≡ (other j (suc p) || not (eqb n j))
    go (yes e) d k = rw (e, eqb-suc-zero n, eqb-suc-suc n n, eq-eqb n n refl, eqb-suc-zero n, eqb-suc-suc n j) (sym (or_self (not (eqb n j))))
    go (no e) (yes d) k =
        rw (eqb-suc-zero p, eqb-suc-suc p n, ne_eqb p n e, ne_eqb many 0 (λ z. absurd (omega arith)), ne_eqb many (suc j) (λ z. absurd (omega arith)), eqb-suc-suc p j, eq-eqb p j d, ne_eqb n j (λ z. e (d ∙ sym z)))
    go (no e) (no d) k =
        rw (eqb-suc-zero p, eqb-suc-suc p n, ne_eqb p n e, ne_eqb many 0 (λ z. absurd (omega arith)), ne_eqb many (suc j) (λ z. absurd (omega arith)), eqb-suc-suc p j, ne_eqb p j d)

-- the number tells whether there is another in a list
pub sole_any : (many j : ℕ) → suc j < many → (c : ℕ) (ns : List ℕ) → other j (through (sole many) c ns) ≡ (other j c || any (λ n. not (eqb n j)) ns)
unfolding through any
sole_any many j h c [] = sym (or-false (other j c))
sole_any many j h c (n ∷ ns) =
    sole_any many j h (sole many c n) ns
    ∙ ap (λ b. b || any (λ m. not (eqb m j)) ns) (sole_other many j c n h)
    ∙ or_assoc (other j c) (not (eqb n j)) (any (λ m. not (eqb m j)) ns)

-- all that pass one test pass another, or some one is at odds
pub all_any : (p q : ℕ → Bool) (ns : List ℕ) → all p (filter q ns) ≡ not (any q (filter (λ n. not (p n)) ns))
unfolding filter all any
all_any p q [] = refl
all_any p q (n ∷ ns) = go (p n) (q n) refl refl (all_any p q ns)
  where
    go : (a b : Bool) → p n ≡ a → q n ≡ b → all p (filter q ns) ≡ not (any q (filter (λ m. not (p m)) ns))
        → all p (cond b (n ∷ filter q ns) (filter q ns)) ≡ not (any q (cond (not a) (n ∷ filter (λ m. not (p m)) ns) (filter (λ m. not (p m)) ns)))
    go true true e f h = rw e h
    go true false e f h = h
    go false true e f h = rw (e, f)
    go false false e f h = rw f h
