-- The marks that one entry adds: of its face, unless it is the first one of the face that ranks first. Assumes nothing.
use mathlib.Core.Path.{◌≡◌, refl, sym, ap, ◌∙◌}
use mathlib.Core.Bool.{Bool, true, false, not, ◌&&◌, ◌||◌, cond, or-false, or-true}
use mathlib.Core.List.{List, [], ◌∷◌, ◌++◌, append-nil}
use Prim.Native.Nat.{ℕ}
use borrow.Author.Tests.{eq-eqb, ne_eqb}
use lib.Dec.{eqb}
use Rattle.rules.specs.Lists.{any, has}
use Rattle.rules.specs.Rank.{without}
use Rattle.marking.proofs.Running.{any_snoc}

-- among no entries nothing is lost
pub lost_none : (one i : ℕ) → has i (without one []) ≡ false
unfolding has any without
lost_none one i = refl

-- `one` is in no list of none
pub none_seen : (one : ℕ) → false ≡ has one []
unfolding has any
none_seen one = refl

-- one entry more is left, unless it is the first one of `one`
without_snoc : (one : ℕ) (us : List ℕ) (f : ℕ) → without one (us ++ (f ∷ [])) ≡ without one us ++ cond (not (has one us) && eqb one f) [] (f ∷ [])
unfolding without has any
without_snoc one [] f = go (eqb one f)
  where
    go : (b : Bool) → cond b [] (f ∷ []) ≡ cond b [] (f ∷ [])
    go b = refl
without_snoc one (u ∷ us) f = go (eqb one u) (without_snoc one us f)
  where
    go : (b : Bool) → without one (us ++ (f ∷ [])) ≡ without one us ++ cond (not (any (eqb one) us) && eqb one f) [] (f ∷ [])
        → cond b (us ++ (f ∷ [])) (u ∷ without one (us ++ (f ∷ []))) ≡ cond b us (u ∷ without one us) ++ cond (not (b || any (eqb one) us) && eqb one f) [] (f ∷ [])
    go true e = refl
    go false e = ap (λ l. u ∷ l) e

module _ (one : ℕ) (us : List ℕ) (f : ℕ) where
  -- it is: it loses nothing
  pub lost_first : (not (has one us) && eqb one f) ≡ true → (i : ℕ) → has i (without one (us ++ (f ∷ []))) ≡ has i (without one us)
  lost_first e i = ap (has i) (without_snoc one us f ∙ ap (λ b. without one us ++ cond b [] (f ∷ [])) e ∙ append-nil (without one us))

  -- and `one` is seen
  pub seen_first : (not (has one us) && eqb one f) ≡ true → true ≡ has one (us ++ (f ∷ []))
  unfolding has
  seen_first e = sym (any_snoc (eqb one) us f ∙ go (any (eqb one) us) (eqb one f) e)
    where
      go : (a b : Bool) → (not a && b) ≡ true → (a || b) ≡ true
      go true b h = refl
      go false b h = h

  -- it is not: it is left
  rest : (not (has one us) && eqb one f) ≡ false → without one (us ++ (f ∷ [])) ≡ without one us ++ (f ∷ [])
  rest e = without_snoc one us f ∙ ap (λ b. without one us ++ cond b [] (f ∷ [])) e

  -- so its face is lost
  pub lost_here : (not (has one us) && eqb one f) ≡ false → has f (without one (us ++ (f ∷ []))) ≡ true
  unfolding has
  lost_here e = ap (any (eqb f)) (rest e) ∙ any_snoc (eqb f) (without one us) f ∙ rw (eq-eqb f f refl) (or-true (any (eqb f) (without one us)))

  -- whether another face is lost stays as it is
  pub lost_other : (not (has one us) && eqb one f) ≡ false → (i : ℕ) → (f ≡ i → ⊥) → has i (without one (us ++ (f ∷ []))) ≡ has i (without one us)
  unfolding has
  lost_other e i n = ap (any (eqb i)) (rest e) ∙ any_snoc (eqb i) (without one us) f ∙ rw (ne_eqb i f (λ s. n (sym s))) (or-false (any (eqb i) (without one us)))

  -- and so does whether `one` is seen
  pub seen_rest : (not (has one us) && eqb one f) ≡ false → has one us ≡ has one (us ++ (f ∷ []))
  unfolding has
  seen_rest e = sym (any_snoc (eqb one) us f ∙ go (any (eqb one) us) (eqb one f) e)
    where
      go : (a b : Bool) → (not a && b) ≡ false → (a || b) ≡ a
      go true b h = refl
      go false b h = h
