-- "Ranked first" has one meaning: where rank is a strict total order, the best of a list that is not empty is a member that no member outranks, and it
-- is the only such member. Assumes nothing.
use mathlib.Core.Path.{◌≡◌, refl, sym, ◌∙◌, subst}
use mathlib.Core.Bool.{Bool, true, false, cond}
use mathlib.Core.Logic.{◌⊎◌, inl, inr, ⊎_elim}
use mathlib.Core.List.Memᴰ
use mathlib.Core.List.{List, [], ◌∷◌, Memᴰ}
use Prim.Native.Nat.{ℕ}
use native.Mathlib.Decide.{ℕ_discrete}
use lib.Dec.{T}
use lib.Ieee.{Float}
use Rattle.rules.specs.Lists.{through}
use Rattle.rules.specs.Rank.{outranks, better, best}
use Rattle.rule_laws.proofs.Ranks.{StrictTotal}

-- i is a member of us, and no member outranks it
pub record RankedFirst (q : ℕ → Float) (us : List ℕ) (i : ℕ) : Type 0 where
  pub member : Memᴰ i us
  pub foremost : (j : ℕ) → Memᴰ j us → T (outranks q j i) → ⊥

module _ (q : ℕ → Float) (order : StrictTotal (outranks q)) where
  -- the better of two is one of them
  better_member : (i j : ℕ) → (better q i j ≡ i) ⊎ (better q i j ≡ j)
  unfolding better
  better_member i j = go (outranks q j i)
    where
      go : (b : Bool) → (cond b j i ≡ i) ⊎ (cond b j i ≡ j)
      go true = inr refl
      go false = inl refl

  -- what outranks the better of two outranks the first of them
  above_first : (i j k : ℕ) → T (outranks q k (better q i j)) → T (outranks q k i)
  unfolding better
  above_first i j k t = go (outranks q j i) refl t
    where
      go : (b : Bool) → outranks q j i ≡ b → T (outranks q k (cond b j i)) → T (outranks q k i)
      go true e t = order.transitive k j i t (subst T (sym e) tt)
      go false e t = t

  -- the second of two does not outrank the better
  not_above_second : (i j : ℕ) → T (outranks q j (better q i j)) → ⊥
  unfolding better
  not_above_second i j t = go (outranks q j i) refl t
    where
      go : (b : Bool) → outranks q j i ≡ b → T (outranks q j (cond b j i)) → ⊥
      go true e t = order.irreflexive j t
      go false e t = subst T e t

  -- the best of i and a list is i or in the list
  through_member : (i : ℕ) (us : List ℕ) → Memᴰ (through (better q) i us) (i ∷ us)
  unfolding through
  through_member i [] = Memᴰ.head refl
  through_member i (j ∷ us) = go (better_member i j) (Memᴰ.cases_cons (through_member (better q i j) us))
    where
      b : ℕ
      b = through (better q) (better q i j) us

      go : (better q i j ≡ i) ⊎ (better q i j ≡ j) → (b ≡ better q i j) ⊎ Memᴰ b us → Memᴰ b (i ∷ j ∷ us)
      go (inl e) (inl f) = Memᴰ.head (f ∙ e)
      go (inr e) (inl f) = Memᴰ.tail (Memᴰ.head (f ∙ e))
      go e (inr m) = Memᴰ.tail (Memᴰ.tail m)

  -- what outranks the best of i and a list outranks i
  above_start : (i : ℕ) (us : List ℕ) (k : ℕ) → T (outranks q k (through (better q) i us)) → T (outranks q k i)
  unfolding through
  above_start i [] k t = t
  above_start i (j ∷ us) k t = above_first i j k (above_start (better q i j) us k t)

  -- no member of the list outranks the best
  none_above : (i : ℕ) (us : List ℕ) (k : ℕ) → Memᴰ k us → T (outranks q k (through (better q) i us)) → ⊥
  unfolding through
  none_above i [] k m t = Memᴰ.not-nil m
  none_above i (j ∷ us) k m t =
      ⊎_elim (λ e. not_above_second i j (subst (λ l. T (outranks q l (better q i j))) e (above_start (better q i j) us k t)))
      (λ n. none_above (better q i j) us k n t) (Memᴰ.cases_cons m)

  -- the best ranks first
  pub best_first : (u : ℕ) (us : List ℕ) → RankedFirst q (u ∷ us) (best q (u ∷ us))
  unfolding best
  best_first u us = record { member = through_member u us; foremost = λ j m t. go j t (Memᴰ.cases_cons m) }
    where
      go : (j : ℕ) → T (outranks q j (through (better q) u us)) → (j ≡ u) ⊎ Memᴰ j us → ⊥
      go j t (inl e) = order.irreflexive u (subst (λ l. T (outranks q l u)) e (above_start u us j t))
      go j t (inr m) = none_above u us j m t

  -- one that no other member outranks is the only one: of two that differ, one outranks the other
  pub best_only :
      (u : ℕ) (us : List ℕ) (i : ℕ) → Memᴰ i (u ∷ us) → ((j : ℕ) → Memᴰ j (u ∷ us) → (j ≡ i → ⊥) → T (outranks q j i) → ⊥)
      → i ≡ best q (u ∷ us)
  best_only u us i m none = go (ℕ_discrete (best q (u ∷ us)) i)
    where
      first : RankedFirst q (u ∷ us) (best q (u ∷ us))
      first = best_first u us

      go : Dec (best q (u ∷ us) ≡ i) → i ≡ best q (u ∷ us)
      go (yes e) = sym e
      go (no d) =
          absurd (⊎_elim (λ t. none (best q (u ∷ us)) first.member d t) (λ t. first.foremost i m t) (order.total (best q (u ∷ us)) i d))
