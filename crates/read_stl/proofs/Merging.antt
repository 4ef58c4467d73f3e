-- The rules' points and triples, by the first corner that is equal to each. Assumes nothing.
use mathlib.Core.Path.{◌≡◌, refl, sym, ap, subst, ◌∙◌}
use mathlib.Core.Logic.{⊎_elim}
use mathlib.Core.Bool.{Bool, true, false, not}
use mathlib.Core.List.{List, [], ◌∷◌, Memᴰ}
use Prim.Native.Nat.{ℕ, zero, suc, ◌≤◌, ◌<◌, suc-le-suc}
use native.Mathlib.Nat.{eq-or-lt_of_le, le_of_suc-le-suc, not-suc-le-zero}
use native.Mathlib.Omega.{arith}
use borrow.Author.Tests.{eq-eqb, ne_eqb}
use lib.Dec.{T, eqb}
use lib.Ieee.Bits.{is_true}
use lib.ListN.{length, get_or, take}
use lib.Seq.{get_or-take, length-take-le}
use Rattle.rules.specs.Lists.{below, filter, count, any, first, leave}
use Rattle.rules.specs.Mesh.{Point, point, zero64}
use Rattle.rules.specs.Stl.{equal, again, merged, number}
use Rattle.rule_laws.proofs.Lists.{count_below_suc}
use Rattle.rule_laws.proofs.Members.{mem_at, mem_index, any_intro, any_mem}

-- r is the first corner that is equal to corner x
pub record FirstEqual (cs : List Point) (x r : ℕ) : Type 0 where
  pub at_most : r ≤ x
  pub here : equal (point cs x) (point cs r) ≡ true
  pub none : (y : ℕ) → y < r → equal (point cs x) (point cs y) ≡ false

module _ (cs : List Point) (x : ℕ) (h : x < length cs) where
  -- an earlier corner is equal
  some_earlier : (j : ℕ) → j < x → equal (point cs x) (point cs j) ≡ true → again cs x ≡ true
  unfolding again point
  some_earlier j l e =
      let k = length-take-le x cs (omega arith) in
      is_true (again cs x)
      (any_intro (equal (point cs x)) (point cs j) (take x cs)
      (subst (λ p. Memᴰ p (take x cs)) (get_or-take x cs j (record { x = zero64; y = zero64; z = zero64 }) l) (mem_at (take x cs) j (record { x = zero64; y = zero64; z = zero64 }) (omega arith)))
      (subst T (sym e) tt))

  -- none is
  none_earlier : ((j : ℕ) → j < x → equal (point cs x) (point cs j) ≡ false) → again cs x ≡ false
  unfolding again point
  none_earlier n = go (again cs x) refl
    where
      clash : T (any (equal (point cs x)) (take x cs)) → ⊥
      clash t =
          let w = any_mem (equal (point cs x)) (take x cs) t in
          let k = length-take-le x cs (omega arith) in
          let i = mem_index (record { x = zero64; y = zero64; z = zero64 }) w.0 (take x cs) w.1 in
          let l : i.0 < x = omega (arith, i.1) in
          let e : w.0 ≡ point cs i.0 = sym i.2 ∙ get_or-take x cs i.0 (record { x = zero64; y = zero64; z = zero64 }) l in
          subst T (sym (ap (equal (point cs x)) (sym e)) ∙ n i.0 l) w.2

      go : (b : Bool) → again cs x ≡ b → again cs x ≡ false
      go true e = absurd (clash (subst T (sym e) tt))
      go false e = e

  -- so a corner is passed over exactly if it is not its own first one
  pub again_is : (r : ℕ) → FirstEqual cs x r → again cs x ≡ not (eqb r x)
  again_is r f =
      ⊎_elim
      (λ (e : r ≡ x). none_earlier (λ j l. f.none j (omega arith)) ∙ ap not (sym (eq-eqb r x e)))
      (λ (l : r < x). some_earlier r l f.here ∙ ap not (sym (ne_eqb r x (omega arith))))
      (eq-or-lt_of_le f.at_most)

-- the first that passes, when marked ones have left: how many before it stay
first_left :
    {A : Type 0} (p : A → Bool) (d : A) (m : ℕ → Bool) (xs : List A) (r : ℕ) → r < length xs → m r ≡ false → p (get_or xs r d) ≡ true
    → ((j : ℕ) → j < r → p (get_or xs j d) ≡ false) → first p (leave m xs) ≡ count (λ i. not (m i)) (below r)
unfolding leave first
first_left p d m [] r h a b n = absurd (not-suc-le-zero h)
first_left p d m (x ∷ xs) zero h a b n = unfold below count filter in rw (a, b) refl
first_left p d m (x ∷ xs) (suc r) h a b n = go (m 0) refl (first_left p d (λ i. m (suc i)) xs r (le_of_suc-le-suc h) a b (λ j l. n (suc j) (suc-le-suc l)))
  where
    go : (t : Bool) → m 0 ≡ t → first p (leave (λ i. m (suc i)) xs) ≡ count (λ i. not (m (suc i))) (below r) → first p (leave m (x ∷ xs)) ≡ count (λ i. not (m i)) (below (suc r))
    go true e rest = rw (count_below_suc (λ i. not (m i)) r, e) (omega (arith, rest))
    go false e rest = rw (count_below_suc (λ i. not (m i)) r, e, n 0 (omega arith)) (omega (arith, rest))

-- a corner's number: how many before its first one are not passed over
pub number_is :
    (cs : List Point) (x r : ℕ) → x < length cs → FirstEqual cs x r → again cs r ≡ false
    → number cs (point cs x) ≡ count (λ i. not (again cs i)) (below r)
unfolding number merged point
number_is cs x r h f a = first_left (equal (point cs x)) (record { x = zero64; y = zero64; z = zero64 }) (again cs) cs r (omega (arith, f.at_most)) a f.here f.none
