-- Lines in their order, by a single number: section and first number rise, but for splits, of which each adds a point. Assumes nothing.
use mathlib.Core.Path.{◌≡◌, refl, sym, ap, ◌∙◌, subst}
use mathlib.Core.Logic.{◌⊎◌, inl, inr}
use mathlib.Core.Bool.{Bool, true, false, ◌&&◌, ◌||◌}
use mathlib.Core.Option.{Option, none, some}
use mathlib.Core.List.{List, [], ◌∷◌}
use Prim.Native.Nat.{ℕ, zero, suc, ◌+◌, ◌*◌, ◌≤◌, ◌<◌}
use native.Mathlib.Nat.{mul-le-mul_right}
use native.Mathlib.Omega.{arith}
use lib.Dec.{T, eqb, ltb, eqb→eq, ltb→lt}
use Rattle.rules.specs.Mending.{Reason, for_repeated, for_thin, for_duplicate, for_edge, for_direction, pass_of, Line, dropped_face, exchange, split_point, isolated_point}
use Rattle.rules.specs.Applying.{section, numbers, precedes}
use Rattle.rule_laws.proofs.Tests.{and_elim, or_elim}

-- the first number of a line
abbrev pub foremost : Line → ℕ
foremost (dropped_face f why) = f
foremost (exchange f) = f
foremost (split_point old new fs) = old
foremost (isolated_point v) = v

-- those after it that order it
abbrev others : Line → List ℕ
others (dropped_face f why) = pass_of why ∷ []
others (exchange f) = []
others (split_point old new fs) = new ∷ []
others (isolated_point v) = []

-- how many points it adds
abbrev pub adds : Line → ℕ
adds (dropped_face f why) = 0
adds (exchange f) = 0
adds (split_point old new fs) = 1
adds (isolated_point v) = 0

-- all its numbers
numbers_are : (l : Line) → numbers l ≡ foremost l ∷ others l
unfolding numbers
numbers_are (dropped_face f why) = refl
numbers_are (exchange f) = refl
numbers_are (split_point old new fs) = refl
numbers_are (isolated_point v) = refl

-- the numbers after the first, by the section
abbrev by_section : ℕ → List ℕ
by_section zero = []
by_section (suc zero) = 1 ∷ []
by_section (suc (suc zero)) = 2 ∷ []
by_section (suc (suc (suc zero))) = 3 ∷ []
by_section (suc (suc (suc (suc zero)))) = []
by_section (suc (suc (suc (suc (suc zero))))) = 4 ∷ []
by_section (suc (suc (suc (suc (suc (suc k)))))) = []

-- but of a split
others_are : (l : Line) → adds l ≡ 0 → others l ≡ by_section (section l)
unfolding section pass_of
others_are (dropped_face f for_repeated) h = refl
others_are (dropped_face f for_thin) h = refl
others_are (dropped_face f for_duplicate) h = refl
others_are (dropped_face f for_edge) h = refl
others_are (dropped_face f for_direction) h = refl
others_are (exchange f) h = refl
others_are (split_point old new fs) h = absurd (omega arith)
others_are (isolated_point v) h = refl

-- a split is alone in its section
alone : (k l : Line) → section k ≡ section l → adds l ≡ 0 → adds k ≡ 0
unfolding section
alone (dropped_face f why) l e h = refl
alone (exchange f) l e h = refl
alone (isolated_point v) l e h = refl
alone (split_point old new fs) (dropped_face f for_repeated) e h = absurd (omega arith)
alone (split_point old new fs) (dropped_face f for_thin) e h = absurd (omega arith)
alone (split_point old new fs) (dropped_face f for_duplicate) e h = absurd (omega arith)
alone (split_point old new fs) (dropped_face f for_edge) e h = absurd (omega arith)
alone (split_point old new fs) (dropped_face f for_direction) e h = absurd (omega arith)
alone (split_point old new fs) (exchange f) e h = absurd (omega arith)
alone (split_point old new fs) (split_point v w gs) e h = absurd (omega arith)
alone (split_point old new fs) (isolated_point v) e h = absurd (omega arith)

-- no list stands before itself
not_itself : (xs : List ℕ) → T (precedes xs xs) → ⊥
unfolding precedes
not_itself [] t = t
not_itself (x ∷ xs) t = go (λ s. not_itself xs s) (or_elim (ltb x x) (eqb x x && precedes xs xs) t)
  where
    go : (T (precedes xs xs) → ⊥) → T (ltb x x) ⊎ T (eqb x x && precedes xs xs) → ⊥
    go r (inl s) = absurd (omega (arith, ltb→lt x x s))
    go r (inr s) = r (and_elim (eqb x x) (precedes xs xs) s).1

-- the first number is lower, or the same and the others stand before
heads : (x y : ℕ) (xs ys : List ℕ) → T (precedes (x ∷ xs) (y ∷ ys)) → (x < y) ⊎ ((x ≡ y) × T (precedes xs ys))
unfolding precedes
heads x y xs ys t = go (or_elim (ltb x y) (eqb x y && precedes xs ys) t)
  where
    go : T (ltb x y) ⊎ T (eqb x y && precedes xs ys) → (x < y) ⊎ ((x ≡ y) × T (precedes xs ys))
    go (inl s) = inl (ltb→lt x y s)
    go (inr s) = let b = and_elim (eqb x y) (precedes xs ys) s in inr (eqb→eq x y b.0, b.1)

-- sections are 1 to 7
section_low : (l : Line) → (1 ≤ section l) × (section l ≤ 7)
unfolding section
section_low (dropped_face f for_repeated) = (omega arith, omega arith)
section_low (dropped_face f for_thin) = (omega arith, omega arith)
section_low (dropped_face f for_duplicate) = (omega arith, omega arith)
section_low (dropped_face f for_edge) = (omega arith, omega arith)
section_low (dropped_face f for_direction) = (omega arith, omega arith)
section_low (exchange f) = (omega arith, omega arith)
section_low (split_point old new fs) = (omega arith, omega arith)
section_low (isolated_point v) = (omega arith, omega arith)

module _ (N : ℕ) where
  -- where a line stands among all that there may be
  abbrev rank-of : Line → ℕ
  rank-of l = section l * N + foremost l

  -- of the last one
  abbrev pub rank : Option Line → ℕ
  rank none = 0
  rank (some l) = rank-of l

  -- the numbers of the last one
  abbrev pub key : Option Line → List ℕ
  key none = []
  key (some l) = section l ∷ numbers l

  -- first numbers are below N
  abbrev pub Low : Option Line → Type 0
  Low none = Unit {0}
  Low (some l) = foremost l < N

  -- a line is not beyond all
  pub rank_low : (o : Option Line) → Low o → rank o ≤ 8 * N
  rank_low none h = omega arith
  rank_low (some l) h =
      let m : section l * N ≤ 7 * N = mul-le-mul_right N (section_low l).1 in
      omega (arith, h)

  -- one line behind another: it ranks higher, or it is a split
  behind : (k l : Line) → foremost k < N → T (precedes (section k ∷ numbers k) (section l ∷ numbers l)) → rank-of k + 1 ≤ rank-of l + adds l
  behind k l h t = go (heads (section k) (section l) (numbers k) (numbers l) t)
    where
      within : section k ≡ section l → (foremost k < foremost l) ⊎ ((foremost k ≡ foremost l) × T (precedes (others k) (others l))) → rank-of k + 1 ≤ rank-of l + adds l
      within e (inl s) = let m : section k * N ≡ section l * N = ap (λ j. j * N) e in omega arith
      within e (inr s) = which l e s
        where
          same : (l : Line) → adds l ≡ 0 → section k ≡ section l → T (precedes (others k) (others l)) → ⊥
          same l a e t = not_itself (others l) (subst (λ xs. T (precedes xs (others l))) (others_are k (alone k l e a) ∙ ap by_section e ∙ sym (others_are l a)) t)

          which : (l : Line) → section k ≡ section l → (foremost k ≡ foremost l) × T (precedes (others k) (others l)) → rank-of k + 1 ≤ rank-of l + adds l
          which (dropped_face f why) e s = absurd (same (dropped_face f why) refl e s.1)
          which (exchange f) e s = absurd (same (exchange f) refl e s.1)
          which (isolated_point v) e s = absurd (same (isolated_point v) refl e s.1)
          which (split_point old new fs) e s =
              let m : section k * N ≡ section (split_point old new fs) * N = ap (λ j. j * N) e in
              omega (arith, s.0)

      go : (section k < section l) ⊎ ((section k ≡ section l) × T (precedes (numbers k) (numbers l))) → rank-of k + 1 ≤ rank-of l + adds l
      go (inl s) =
          let m : suc (section k) * N ≤ section l * N = mul-le-mul_right N s in
          omega (arith, h)
      go (inr s) =
          within s.0
          (heads (foremost k) (foremost l) (others k) (others l) (subst (λ ys. T (precedes (foremost k ∷ others k) ys)) (numbers_are l) (subst (λ xs. T (precedes xs (numbers l))) (numbers_are k) s.1)))

  -- of the first line too
  pub rises : (o : Option Line) (l : Line) → Low o → foremost l < N → T (precedes (key o) (section l ∷ numbers l)) → rank o + 1 ≤ rank-of l + adds l
  rises none l g h t =
      let m : 1 * N ≤ section l * N = mul-le-mul_right N (section_low l).0 in
      omega arith
  rises (some k) l g h t = behind k l g t
