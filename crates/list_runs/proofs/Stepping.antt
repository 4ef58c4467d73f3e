-- Where all of some lines apply, the first does, and the others do to what it leaves. Assumes nothing.
use mathlib.Core.Path.{◌≡◌, refl, sym, ◌∙◌, subst}
use mathlib.Core.Bool.{Bool, true, false, ◌&&◌, cond}
use mathlib.Core.Option.{Option, none, some}
use mathlib.Core.List.{List, [], ◌∷◌}
use Prim.Native.Nat.{ℕ}
use lib.Dec.{T}
use Rattle.rules.specs.Lists.{through}
use Rattle.rules.specs.Mending.{Line}
use Rattle.rules.specs.Applying.{Bench, section, numbers, precedes, applies, change, with_list_line}

-- there is something
abbrev Is : {A : Type 0} → Option A → Type 0
Is none = ⊥
Is (some a) = Unit {0}

module _ (P F : ℕ) where
  -- of no bench nothing is made
  none_through : (ls : List (Option Line)) → through (with_list_line P F) none ls ≡ none
  unfolding through with_list_line
  none_through [] = refl
  none_through (l ∷ ls) = none_through ls

  -- a line that stands behind the last one and applies, and what the others make of what it leaves
  pub record Stepped (b : Bench) (l : Line) (ls : List (Option Line)) (z : Bench) : Type 0 where
    pub behind : T (precedes b.last (section l ∷ numbers l))
    pub applies : T (applies P F b l)
    pub goes : through (with_list_line P F) (some (change b l (section l ∷ numbers l))) ls ≡ some z

  -- the first line
  pub step : (b : Bench) (l : Line) (ls : List (Option Line)) (z : Bench) → through (with_list_line P F) (some b) (some l ∷ ls) ≡ some z → Stepped b l ls z
  unfolding through with_list_line
  step b l ls z e = go (precedes b.last at) (applies P F b l) (λ t. t) (λ t. t) e
    where
      at : List ℕ
      at = section l ∷ numbers l

      go : (s t : Bool) → (T s → T (precedes b.last at)) → (T t → T (applies P F b l)) → through (with_list_line P F) (cond (s && t) (some (change b l at)) none) ls ≡ some z → Stepped b l ls z
      go true true g h q = record { behind = g tt; applies = h tt; goes = q }
      go true false g h q = absurd (subst Is (sym (sym (none_through ls) ∙ q)) tt)
      go false t g h q = absurd (subst Is (sym (sym (none_through ls) ∙ q)) tt)

  -- which is no bad one
  pub no_step : (b : Bench) (ls : List (Option Line)) (z : Bench) → through (with_list_line P F) (some b) (none ∷ ls) ≡ some z → ⊥
  unfolding through with_list_line
  no_step b ls z e = subst Is (sym (sym (none_through ls) ∙ e)) tt
