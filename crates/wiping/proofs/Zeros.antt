-- A room of zeros: what a walk over it by blocks knows, and that it is as it was once it is cleared again. Assumes nothing.
use mathlib.Core.Path.{◌≡◌, refl, sym, ap, ◌∙◌, subst}
use mathlib.Core.Bool.{Bool, true, false}
use mathlib.Core.List.{List}
use Prim.Native.Nat.{ℕ, ◌+◌, ◌≤◌, ◌<◌}
use native.Mathlib.Nat.{zero-add}
use native.Mathlib.Omega.{arith}
use native.Mathlib.Decide.{dec_lt}
use lib.ListN.{length, get_or, take}
use lib.Seq.{ext_get_or, length-take-le, get_or-take}
use lib.Dec.{T, eqb, eqb→eq, eqb_refl}
use lib.Ieee.Bits.{is_true}
use Rattle.rows.specs.Region.{Only, Filled, Out.above}
use Rattle.rules.specs.Lists.{all}
use Rattle.rule_laws.proofs.Rising.{all_at, all_from}
use Rattle.rule_laws.proofs.Members.{all_elim, all_intro}
use Rattle.wiping.specs.Blocks.{SomeGives}
use Rattle.wiping.proofs.Blocks.{Wiped, passes}

module _ (w : List ℕ) (n : ℕ) (h : n ≤ length w) where
  -- of a room of zeros each entry is 0
  pub zero_each : all (eqb 0) (take n w) ≡ true → (j : ℕ) → j < n → get_or w j 0 ≡ 0
  zero_each e j l =
      sym (eqb→eq 0 (get_or w j 0)
      (subst (λ x. T (eqb 0 x)) (get_or-take n w j 0 l)
      (all_at (λ x. T (eqb 0 x)) (take n w) 0 j (all_elim (eqb 0) (take n w) (subst T (sym e) tt)) (omega (arith, length-take-le n w h)))))

  -- where each entry is 0, it is one
  pub each_zero : ((j : ℕ) → j < n → get_or w j 0 ≡ 0) → all (eqb 0) (take n w) ≡ true
  each_zero f =
      is_true (all (eqb 0) (take n w))
      (all_intro (eqb 0) (take n w)
      (all_from (λ x. T (eqb 0 x)) 0 (take n w)
      (λ j k. let l : j < n = omega (arith, length-take-le n w h) in rw (get_or-take n w j 0 l, f j l) (eqb_refl 0))))

  -- so is one of which all blocks were without a bit
  pub all_zero : {i : ℕ} → Wiped 0 0 w 0 n w i → n ≤ i → true ≡ all (eqb 0) (take n w)
  all_zero v l = sym (each_zero (λ j k. ap (λ a. get_or w a 0) (sym (zero-add j)) ∙ v.zeros.each j (omega arith)))

  -- one block more of zeros
  pub still : {i m : ℕ} {b : Bool} → Wiped 0 0 w 0 n w i → i + m ≤ n → SomeGives 0 0 w i m b → b ≡ false → Wiped 0 0 w 0 n w (i + m)
  still {i} {m} v b a e = passes v b (subst (λ k. Filled k m 0 w) (sym (zero-add i)) (a.clean e))

  -- any other block is in none
  pub not_zero : {i m : ℕ} {b : Bool} → SomeGives 0 0 w i m b → i + m ≤ n → b ≡ true → false ≡ all (eqb 0) (take n w)
  not_zero {i} {m} a l f = go (all (eqb 0) (take n w)) refl
    where
      go : (c : Bool) → all (eqb 0) (take n w) ≡ c → false ≡ c
      go true e = absurd (a.dirty f (record { each = λ k q. zero_each e (i + k) (omega arith) }))
      go false e = refl

  -- whatever is written to a room of zeros, once it is cleared it is as it was
  pub restored : {w' : List ℕ} → all (eqb 0) (take n w) ≡ true → Only 0 n w w' → Filled 0 n 0 w' → w' ≡ w
  restored {w'} e o z = ext_get_or 0 w' w o.long (λ i k. go i (dec_lt i n))
    where
      go : (i : ℕ) → Dec (i < n) → get_or w' i 0 ≡ get_or w i 0
      go i (yes l) = ap (λ k. get_or w' k 0) (sym (zero-add i)) ∙ z.each i l ∙ sym (zero_each e i l)
      go i (no l) = o.same i (above (omega arith))
