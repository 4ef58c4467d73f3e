-- Two texts that are equal are the same bytes, and the first line of a text. Assumes nothing.
use mathlib.Core.Path.{◌≡◌, refl, sym, ap, ◌∙◌}
use mathlib.Core.Bool.{Bool, true, false, ◌&&◌, true≢false}
use mathlib.Core.List.{List, [], ◌∷◌, ◌++◌}
use Prim.Native.Nat.{ℕ}
use borrow.Author.Tests.{eqb-true, eq-eqb, ne_eqb}
use lib.Dec.{eqb}
use lib.ListN.{get_or}
use Rattle.rules.specs.Text.{onto, parted, equal}
use Rattle.rules.specs.Ply.{line_end}
use Rattle.rule_laws.proofs.Rising.{All}

-- what is equal is the same, byte after byte
pub equal_same : (xs ys : List ℕ) → equal xs ys ≡ true → xs ≡ ys
unfolding equal
equal_same [] [] e = refl
equal_same [] (y ∷ ys) e = absurd (true≢false (sym e))
equal_same (x ∷ xs) [] e = absurd (true≢false (sym e))
equal_same (x ∷ xs) (y ∷ ys) e = go (eqb x y) refl e (equal_same xs ys)
  where
    go : (t : Bool) → eqb x y ≡ t → (t && equal xs ys) ≡ true → (equal xs ys ≡ true → xs ≡ ys) → x ∷ xs ≡ y ∷ ys
    go true q p f = rw (eqb-true x y q, f p) refl
    go false q p f = absurd (true≢false (sym p))

-- a text equals itself
pub equal_self : (xs : List ℕ) → equal xs xs ≡ true
unfolding equal
equal_self [] = refl
equal_self (x ∷ xs) = rw (eq-eqb x x refl) (equal_self xs)

-- texts that differ are not equal
pub equal_not : (xs ys : List ℕ) → (xs ≡ ys → ⊥) → equal xs ys ≡ false
equal_not xs ys h = go (equal xs ys) refl
  where
    go : (b : Bool) → equal xs ys ≡ b → b ≡ false
    go true e = absurd (h (equal_same xs ys e))
    go false e = refl

-- a byte before the pieces goes before the first
onto_first : (b : ℕ) (ps : List (List ℕ)) → get_or (onto b ps) 0 [] ≡ b ∷ get_or ps 0 []
unfolding onto
onto_first b [] = refl
onto_first b (p ∷ ps) = refl

-- bytes that are no newline, and then one: the line has them
pub line_end_at : (xs rest : List ℕ) → All (λ b. b ≡ 10 → ⊥) xs → line_end (xs ++ (10 ∷ rest)) ≡ xs
unfolding line_end parted
line_end_at [] rest a = refl
line_end_at (x ∷ xs) rest a =
    rw (ne_eqb x 10 a.0) (onto_first x (parted 10 (xs ++ (10 ∷ rest))) ∙ ap (λ l. x ∷ l) (line_end_at xs rest a.1))
