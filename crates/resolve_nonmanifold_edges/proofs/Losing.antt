-- The marks that one entry adds: of its face, unless that is one of the two that are kept. Assumes nothing.
use mathlib.Core.Path.{◌≡◌, refl, sym, ◌∙◌}
use mathlib.Core.Bool.{true, false, not, ◌||◌, or-false, or-true, and-false}
use mathlib.Core.List.{List, [], ◌∷◌, ◌++◌}
use Prim.Native.Nat.{ℕ}
use native.Mathlib.Decide.{ℕ_discrete}
use borrow.Author.Tests.{eq-eqb, ne_eqb}
use lib.Dec.{eqb}
use Rattle.rules.specs.Lists.{any, has}
use Rattle.marking.proofs.Running.{any_snoc}
use Rattle.resolve_nonmanifold_edges.specs.Crowds.{lost_of}

-- among no entries nothing is lost
pub lost_none : (one two i : ℕ) → lost_of [] one two i ≡ false
unfolding has any
lost_none one two i = refl

module _ (us : List ℕ) (f one two : ℕ) where
  -- whether a face that is not the entry's is lost stays as it is
  pub lost_other : (i : ℕ) → (f ≡ i → ⊥) → lost_of (us ++ (f ∷ [])) one two i ≡ lost_of us one two i
  unfolding has
  lost_other i n = rw (any_snoc (eqb i) us f, ne_eqb i f (λ e. n (sym e)), or-false (any (eqb i) us))

  -- the entry's face is kept: it loses nothing
  pub lost_kept : not (eqb f one || eqb f two) ≡ false → (i : ℕ) → lost_of (us ++ (f ∷ [])) one two i ≡ lost_of us one two i
  unfolding has
  lost_kept k i = go (ℕ_discrete f i)
    where
      go : Dec (f ≡ i) → lost_of (us ++ (f ∷ [])) one two i ≡ lost_of us one two i
      go (yes e) =
          let z : not (eqb i one || eqb i two) ≡ false = rw e at k in
          rw z (and-false (any (eqb i) (us ++ (f ∷ []))) ∙ sym (and-false (any (eqb i) us)))
      go (no n) = lost_other i n

  -- it is not: it is lost
  pub lost_here : not (eqb f one || eqb f two) ≡ true → lost_of (us ++ (f ∷ [])) one two f ≡ true
  unfolding has
  lost_here k = rw (k, any_snoc (eqb f) us f, eq-eqb f f refl, or-true (any (eqb f) us))
