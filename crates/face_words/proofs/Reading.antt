-- What is read of a face is its view. Assumes nothing.
use mathlib.Core.Path.{◌≡◌, sym, ap}
use mathlib.Core.List.{List}
use Prim.Native.Nat.{ℕ, ◌+◌, ◌*◌, ◌/◌, ◌%◌}
use native.Mathlib.Omega.{arith}
use borrow.Author.Tests.{eq-eqb, ne_eqb}
use lib.ListN.{get_or}
use Rattle.rules.specs.Mesh.{Face, face, faces_of, exchanged}
use Rattle.rule_laws.proofs.Flat.{face_at}
use Rattle.face_words.specs.Words.{straight, view}
use Rattle.face_words.specs.Views.{ViewAsks}

module _ {xs w : List ℕ} {f : ℕ} (p : ViewAsks xs w f) where
  -- the face as it was put in
  input : face (faces_of xs) f ≡ record { a = get_or xs (3 * f) 0; b = get_or xs (3 * f + 1) 0; c = get_or xs (3 * f + 2) 0; origin = f }
  input = face_at xs f (omega (arith, p.worded, p.here))

  -- as it was put in
  pub seen_straight : get_or w f 0 / 2 % 2 ≡ 0 → record { a = get_or xs (3 * f) 0; b = get_or xs (3 * f + 1) 0; c = get_or xs (3 * f + 2) 0; origin = f } ≡ view xs w f
  unfolding view straight
  seen_straight e = rw (eq-eqb (get_or w f 0 / 2 % 2) 0 e) (sym input)

  -- with its last corners exchanged
  pub seen_exchanged : (get_or w f 0 / 2 % 2 ≡ 0 → ⊥) → record { a = get_or xs (3 * f) 0; b = get_or xs (3 * f + 2) 0; c = get_or xs (3 * f + 1) 0; origin = f } ≡ view xs w f
  unfolding view straight
  seen_exchanged n = rw (ne_eqb (get_or w f 0 / 2 % 2) 0 n) (unfold exchanged in (ap (λ (g : Face). record { a = g.a; b = g.c; c = g.b; origin = g.origin }) (sym input)))
