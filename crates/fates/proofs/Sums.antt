-- Amounts are added at the origins of faces, place after place: what is added so far stands in the row. Assumes nothing.
use mathlib.Core.Path.{◌≡◌, refl, ap, ◌∙◌}
use mathlib.Core.Bool.{Bool, true, false, cond}
use mathlib.Core.List.{List}
use Prim.Native.Nat.{ℕ, zero, suc, ◌+◌, ◌*◌, ◌^◌, ◌≤◌, ◌<◌}
use native.Mathlib.Numerals.{add-one}
use native.Mathlib.Omega.{arith}
use borrow.Author.Tests.{eq-eqb, ne_eqb}
use lib.Dec.{eqb}
use lib.ListN.{length, get_or, set}
use Rattle.rows.specs.Region.{Only, Holds, Out.below, Out.above}
use Rattle.rows.proofs.Regions.{only_none, only_both, only_set, holds_set}
use Rattle.rules.specs.Float.{repeats}
use Rattle.fates.specs.Adding.{added, AddAsks, AddGives, FlagAsks, flagged, by_flag, why_of, by_shape, by_turn, corners_at}

-- one of two small numbers is small
pub cond_most : (b : Bool) (x y k : ℕ) → x ≤ k → y ≤ k → cond b x y ≤ k
cond_most true x y k h l = h
cond_most false x y k h l = l

-- small amounts, k of them, add little
pub added_most : (amount : ℕ → ℕ) (os : List ℕ) → ((i : ℕ) → amount i ≤ 8) → (k f : ℕ) → added amount os k f ≤ 8 * k
added_most amount os h zero f = omega arith
added_most amount os h (suc k) f = omega (arith, added_most amount os h k f, cond_most (eqb (get_or os k 0) f) (amount k) 0 8 (h k) (omega arith))

-- the amounts of the first i places are added
pub record Adding (amount : ℕ → ℕ) (os : List ℕ) (n : ℕ) (w₀ : List ℕ) (fates : ℕ) (w : List ℕ) (i : ℕ) : Type 0 where
  pub small : (j : ℕ) → amount j ≤ 8
  pub at_most : i ≤ n
  pub only : Only fates (length os) w₀ w
  pub sums : Holds fates (length os) (λ f. get_or w₀ (fates + f) 0 + added amount os i f) w

-- what a turn needs
pub record Turn (amount : ℕ → ℕ) (os : List ℕ) (fates : ℕ) (w : List ℕ) (i : ℕ) : Type 0 where
  pub few : length os ≤ 1048576
  pub here : i < length os
  pub origin : get_or os i 0 < length os
  pub fits : fates + length os ≤ length w
  pub sum : get_or w (fates + get_or os i 0) 0 + amount i < 2 ^ 32

-- nothing is added yet
pub begin : {os : List ℕ} {n : ℕ} {w : List ℕ} {fates : ℕ} (amount : ℕ → ℕ) → ((j : ℕ) → amount j ≤ 8) → AddAsks os n w fates → Adding amount os n w fates w 0
begin amount small p = record { small = small; at_most = omega arith; only = only_none _ _ _; sums = record { each = λ f h. omega arith } }

module _ {os : List ℕ} {n : ℕ} {w₀ : List ℕ} {fates : ℕ} {amount : ℕ → ℕ} {w : List ℕ} {i : ℕ} (p : AddAsks os n w₀ fates) (v : Adding amount os n w₀ fates w i) where
  -- one place more
  module _ (h : i < n) where
    pub turn : Turn amount os fates w i
    turn =
        let l = v.only.long in
        let o = p.low i h in
        record {
          few = p.few;
          here = omega (arith, p.own);
          origin = o;
          fits = omega (arith, p.room);
          sum = omega (arith, v.sums.each (get_or os i 0) o, added_most amount os v.small i (get_or os i 0), p.small (get_or os i 0) o, p.few, p.own, v.small i);
        }

    pub again : (x : ℕ) → x ≡ amount i → Adding amount os n w₀ fates (set w (fates + get_or os i 0) (get_or w (fates + get_or os i 0) 0 + x)) (i + 1)
    again x e =
        let l = v.only.long in
        let o = p.low i h in
        record {
          small = v.small;
          at_most = omega arith;
          only = only_both v.only (only_set w (fates + get_or os i 0) (get_or w (fates + get_or os i 0) 0 + x) (omega arith) (omega (arith, o)));
          sums = rw add-one (holds_set {g = λ f. get_or w₀ (fates + f) 0 + added amount os i f} (get_or os i 0) (get_or w (fates + get_or os i 0) 0 + x) (omega (arith, p.room)) o here other v.sums);
        }
      where
        here : get_or w (fates + get_or os i 0) 0 + x ≡ get_or w₀ (fates + get_or os i 0) 0 + added amount os (suc i) (get_or os i 0)
        here = rw (eq-eqb (get_or os i 0) (get_or os i 0) refl) (omega (arith, v.sums.each (get_or os i 0) (p.low i h), e))

        other : (f : ℕ) → f < length os → (get_or os i 0 ≡ f → ⊥) → get_or w₀ (fates + f) 0 + added amount os i f ≡ get_or w₀ (fates + f) 0 + added amount os (suc i) f
        other f q ne = rw (ne_eqb (get_or os i 0) f ne) (omega arith)

  -- all places
  pub done : n ≤ i → AddGives amount os n w₀ fates w
  done h = let e : i ≡ n = omega (arith, v.at_most) in record { only = v.only; sums = rw e at v.sums }

  -- an entry before the row is what it was
  pub read_before : (j : ℕ) → j < fates → get_or w j 0 ≡ get_or w₀ j 0
  read_before j h = v.only.same j (below h)

-- ---- the amounts of the three walks are small

-- a code where the flag is 1
pub flag_small : (w : List ℕ) (marks code : ℕ) → code ≤ 8 → (i : ℕ) → by_flag w marks code i ≤ 8
flag_small w marks code h i = cond_most (eqb (get_or w (marks + i) 0) 1) code 0 8 h (omega arith)

-- why in pass 1
pub shape_small : (xs w : List ℕ) (marks : ℕ) (i : ℕ) → by_shape xs w marks i ≤ 8
shape_small xs w marks i =
    cond_most (eqb (get_or w (marks + i) 0) 1) (why_of (corners_at xs i)) 0 8 (cond_most (repeats (corners_at xs i)) 1 2 8 (omega arith) (omega arith)) (omega arith)

-- an exchange
pub turn_small : (input xs os : List ℕ) (i : ℕ) → by_turn input xs os i ≤ 8
turn_small input xs os i = cond_most (eqb (get_or xs (3 * i + 1) 0) (get_or input (3 * get_or os i 0 + 1) 0)) 0 8 8 (omega arith) (omega arith)

-- ---- what a walk reads

module _ {os : List ℕ} {marks n : ℕ} {w₀ : List ℕ} {fates : ℕ} {amount : ℕ → ℕ} {w : List ℕ} {i : ℕ} (q : FlagAsks os marks n w₀ fates) (v : Adding amount os n w₀ fates w i) (h : i < n) where
  -- the flag as it was
  flag_read : get_or w (marks + i) 0 ≡ get_or w₀ (marks + i) 0
  flag_read = read_before q.add v (marks + i) (omega (arith, q.flags))

  -- so its code is that of the row before
  pub code_read : (x code : ℕ) → x ≡ flagged (get_or w (marks + i) 0) code → x ≡ by_flag w₀ marks code i
  code_read x code e = e ∙ ap (λ (z : ℕ). flagged z code) flag_read

  -- why in pass 1, where the face's own number does not matter
  pub why_read : (xs : List ℕ) (x y : ℕ) → x ≡ flagged (get_or w (marks + i) 0) y → y ≡ why_of (record { a = get_or xs (3 * i) 0; b = get_or xs (3 * i + 1) 0; c = get_or xs (3 * i + 2) 0; origin = 0 }) → x ≡ by_shape xs w₀ marks i
  why_read xs x y e d = code_read x y e ∙ ap (λ (z : ℕ). flagged (get_or w₀ (marks + i) 0) z) (d ∙ (unfold repeats in refl))

-- ---- why, corner by corner

module _ (a b c : ℕ) where
  -- corners 0 and 1
  pub why_ab : a ≡ b → 1 ≡ why_of (record { a = a; b = b; c = c; origin = 0 })
  unfolding repeats
  why_ab e = rw (eq-eqb a b e) refl

  -- corners 1 and 2
  pub why_bc : (a ≡ b → ⊥) → b ≡ c → 1 ≡ why_of (record { a = a; b = b; c = c; origin = 0 })
  unfolding repeats
  why_bc p e = rw (ne_eqb a b p, eq-eqb b c e) refl

  -- corners 2 and 0
  pub why_ca : (a ≡ b → ⊥) → (b ≡ c → ⊥) → c ≡ a → 1 ≡ why_of (record { a = a; b = b; c = c; origin = 0 })
  unfolding repeats
  why_ca p q e = rw (ne_eqb a b p, ne_eqb b c q, eq-eqb c a e) refl

  -- none
  pub why_none : (a ≡ b → ⊥) → (b ≡ c → ⊥) → (c ≡ a → ⊥) → 2 ≡ why_of (record { a = a; b = b; c = c; origin = 0 })
  unfolding repeats
  why_none p q r = rw (ne_eqb a b p, ne_eqb b c q, ne_eqb c a r) refl

-- ---- several walks

-- each amount is added at its origin, whatever else is changed outside the row
pub record Summed (amount : ℕ → ℕ) (os : List ℕ) (n : ℕ) (w : List ℕ) (fates : ℕ) (w' : List ℕ) : Type 0 where
  pub long : length w' ≡ length w
  pub sums : Holds fates (length os) (λ f. get_or w (fates + f) 0 + added amount os n f) w'

-- so it is after one walk
pub summed : {amount : ℕ → ℕ} {os : List ℕ} {n : ℕ} {w : List ℕ} {fates : ℕ} {w' : List ℕ} → AddGives amount os n w fates w' → Summed amount os n w fates w'
summed g = record { long = g.only.long; sums = g.sums }

-- what two walks add
added_both : (a b : ℕ → ℕ) (os : List ℕ) (k f : ℕ) → added a os k f + added b os k f ≡ added (λ i. a i + b i) os k f
added_both a b os zero f = omega arith
added_both a b os (suc k) f = omega (arith, added_both a b os k f, one (eqb (get_or os k 0) f))
  where
    one : (t : Bool) → cond t (a k) 0 + cond t (b k) 0 ≡ cond t (a k + b k) 0
    one true = refl
    one false = omega arith

-- two walks, and between them a pass that takes entries before the row
pub summed_both :
    {a b : ℕ → ℕ} {os : List ℕ} {n : ℕ} {w₀ w₁ w₂ w₃ : List ℕ} {fates t : ℕ} → Summed a os n w₀ fates w₁ → t ≤ fates → Only 0 t w₁ w₂ → Summed b os n w₂ fates w₃
    → Summed (λ i. a i + b i) os n w₀ fates w₃
summed_both {a} {b} {os} {n} {w₀} {w₁} {w₂} {w₃} {fates} p h o q =
    record {
      long = q.long ∙ o.long ∙ p.long;
      sums = record { each = λ f l. omega (arith, q.sums.each f l, o.same (fates + f) (above (omega arith)), p.sums.each f l, added_both a b os n f) };
    }
