-- The checks of a call in their order: a call is accepted exactly if no check finds anything, and otherwise the first check that finds something
-- decides. Assumes nothing.
use mathlib.Core.Path.{◌≡◌, refl, sym, subst}
use mathlib.Core.Bool.{Bool, true, false}
use mathlib.Core.Logic.{◌↔◌}
use mathlib.Core.List.{List, [], ◌∷◌, ◌++◌}
use Prim.Native.Nat.{ℕ, zero, suc, ◌<◌, zero-le, suc-le-suc}
use native.Mathlib.Nat.{not-suc-le-zero, le_of_suc-le-suc}
use lib.ListN.{get_or}
use lib.Dec.{T}
use Rattle.rules.specs.Refusal.{Check, ok, no, decided, unless}
use Rattle.rule_laws.proofs.Rising.{All}

-- tells `ok` from a refusal
unfoldable pub is_ok : Check → Type 0
is_ok ok = Unit {0}
is_ok (no n p) = ⊥

-- ---- one check

-- a test that finds nothing holds
pub unless_ok : (n p : ℕ) (b : Bool) → unless n p b ≡ ok → T b
unfolding unless is_ok
unless_ok n p true e = tt
unless_ok n p false e = absurd (subst is_ok (sym e) tt)

-- a test that holds finds nothing
pub unless_is : (n p : ℕ) (b : Bool) → b ≡ true → unless n p b ≡ ok
unfolding unless
unless_is n p b e = rw e

-- ---- all checks of a call

-- each check of an accepted call finds nothing
pub decided_all : (cs : List Check) → decided cs ≡ ok → All (λ c. c ≡ ok) cs
unfolding decided is_ok
decided_all [] e = tt
decided_all (ok ∷ cs) e = (refl, decided_all cs e)
decided_all (no n p ∷ cs) e = absurd (subst is_ok (sym e) tt)

-- a call whose every check finds nothing is accepted
pub decided_ok : (cs : List Check) → All (λ c. c ≡ ok) cs → decided cs ≡ ok
unfolding decided
decided_ok [] h = refl
decided_ok (c ∷ cs) h = rw h.0 (decided_ok cs h.1)

-- after a group of checks that finds nothing the next group decides
pub decided_none : (xs ys : List Check) → decided xs ≡ ok → decided (xs ++ ys) ≡ decided ys
unfolding decided is_ok
decided_none [] ys e = refl
decided_none (ok ∷ xs) ys e = decided_none xs ys e
decided_none (no m q ∷ xs) ys e = absurd (subst is_ok (sym e) tt)

-- a group of checks that finds something decides
pub decided_some : (xs ys : List Check) (n p : ℕ) → decided xs ≡ no n p → decided (xs ++ ys) ≡ no n p
unfolding decided is_ok
decided_some [] ys n p e = absurd (subst is_ok e tt)
decided_some (ok ∷ xs) ys n p e = decided_some xs ys n p e
decided_some (no m q ∷ xs) ys n p e = e

-- check i finds number n at the place p (so i is a place of the list), and no check before it finds anything
pub record FirstRefusal (cs : List Check) (n p i : ℕ) : Type 0 where
  pub found : get_or cs i ok ≡ no n p
  pub before : (j : ℕ) → j < i → get_or cs j ok ≡ ok

-- what decides is the first check that finds something
first_of : (cs : List Check) (n p : ℕ) → decided cs ≡ no n p → (i : ℕ) × FirstRefusal cs n p i
unfolding decided is_ok
first_of [] n p e = absurd (subst is_ok e tt)
first_of (ok ∷ cs) n p e = let w = first_of cs n p e in (suc w.0, record { found = w.1.found; before = earlier w.0 w.1.before })
  where
    earlier : (i : ℕ) → ((j : ℕ) → j < i → get_or cs j ok ≡ ok) → (j : ℕ) → j < suc i → get_or (ok ∷ cs) j ok ≡ ok
    earlier i h zero l = refl
    earlier i h (suc j) l = h j (le_of_suc-le-suc l)
first_of (no m q ∷ cs) n p e = (0, record { found = e; before = λ j l. absurd (not-suc-le-zero l) })

-- the first check that finds something decides
pub first_decides : (cs : List Check) (n p i : ℕ) → FirstRefusal cs n p i → decided cs ≡ no n p
unfolding decided is_ok
first_decides [] n p i f = absurd (subst is_ok f.found tt)
first_decides (c ∷ cs) n p zero f = rw f.found
first_decides (c ∷ cs) n p (suc i) f =
    rw (f.before 0 (suc-le-suc zero-le)) (first_decides cs n p i (record { found = f.found; before = λ j l. f.before (suc j) (suc-le-suc l) }))

-- a call is accepted exactly if no check finds anything
pub accepted_exactly : (cs : List Check) → (decided cs ≡ ok) ↔ All (λ c. c ≡ ok) cs
accepted_exactly cs = (decided_all cs, decided_ok cs)

-- a call is refused with number n and place p exactly if that is what the first check that finds something gives
pub refused_exactly : (cs : List Check) (n p : ℕ) → (decided cs ≡ no n p) ↔ ((i : ℕ) × FirstRefusal cs n p i)
refused_exactly cs n p = (first_of cs n p, λ w. first_decides cs n p w.0 w.1)

-- ---- the number that is found

-- if a check finds something, Q holds of its number
abbrev pub IfFound : (ℕ → Type 0) → Check → Type 0
IfFound Q ok = Unit {0}
IfFound Q (no n p) = Q n

-- a check that finds nothing
pub found_none : (Q : ℕ → Type 0) (c : Check) → c ≡ ok → IfFound Q c
found_none Q c e = subst (IfFound Q) (sym e) tt

-- a check by a number of which Q holds
pub found_by : (Q : ℕ → Type 0) (n p : ℕ) (b : Bool) → Q n → IfFound Q (unless n p b)
unfolding unless
found_by Q n p true h = tt
found_by Q n p false h = h

-- the one that decides is one of the list
pub found_first : (Q : ℕ → Type 0) (cs : List Check) → All (IfFound Q) cs → IfFound Q (decided cs)
unfolding decided
found_first Q [] h = tt
found_first Q (ok ∷ cs) h = found_first Q cs h.1
found_first Q (no n p ∷ cs) h = h.0
