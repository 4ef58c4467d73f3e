-- The header of a PLY file: its counts are read back as they were written. Assumes nothing.
use mathlib.Core.Path.{◌≡◌, refl, ap, ◌∙◌}
use mathlib.Core.List.{List, ◌∷◌, ◌++◌, append_assoc}
use Prim.Native.Nat.{ℕ, ◌+◌, ◌^◌, ◌<◌}
use native.Mathlib.Omega.{arith}
use lib.ListN.{length, drop, length-append}
use lib.Seq.{drop-append_seam}
use Rattle.rules.specs.Line.{bytes, digits, plain}
use Rattle.rules.specs.Text.{of_decimal}
use Rattle.rules.specs.Ply.{before_vertices, before_faces, after_counts, header, line_end, vertices_in, faces_in_is}
use Rattle.rule_laws.proofs.Rising.{All, all_imp}
use Rattle.rule_laws.proofs.Digits.{Digit, digits_are, digits_of}
use Rattle.rule_laws.proofs.Texts.{line_end_at}

-- ---- the parts' lengths

-- of the first text
first_long : length before_vertices ≡ 51
unfolding before_vertices bytes
first_long = refl

-- of the second
second_long : length before_faces ≡ 68
unfolding before_faces bytes
second_long = refl

-- of the third
third_long : length after_counts ≡ 51
unfolding after_counts bytes
third_long = refl

-- all three
pub record Lengths : Type 0 where
  pub first : length before_vertices ≡ 51
  pub second : length before_faces ≡ 68
  pub third : length after_counts ≡ 51

-- by counting their bytes
pub lengths : Lengths
lengths = record { first = first_long; second = second_long; third = third_long }

-- a header is its five parts long
pub header_long : (P F : ℕ) → length (header P F) ≡ 170 + length (plain P) + length (plain F)
unfolding header
header_long P F =
    let l1 = length-append (before_vertices ++ plain P ++ before_faces ++ plain F) after_counts in
    let l2 = length-append (before_vertices ++ plain P ++ before_faces) (plain F) in
    let l3 = length-append (before_vertices ++ plain P) before_faces in
    let l4 = length-append before_vertices (plain P) in
    omega (arith, lengths)

-- ---- the counts

-- a digit is no newline
pub no_newline : (n : ℕ) → All (λ b. b ≡ 10 → ⊥) (plain n)
unfolding plain
no_newline n = all_imp Digit (λ b. b ≡ 10 → ⊥) (λ b d e. omega (arith, d.low, e)) (digits 20 n) (digits_are 20 n)

-- the text behind the first count begins with a newline
pub faces_line : (xs : List ℕ) → before_faces ++ xs ≡ 10 ∷ drop 1 (before_faces ++ xs)
unfolding before_faces bytes
faces_line xs = refl

-- and so does that behind the second
pub after_line : (xs : List ℕ) → after_counts ++ xs ≡ 10 ∷ drop 1 (after_counts ++ xs)
unfolding after_counts bytes
after_line xs = refl

-- a count is read back as it was written
count_of : (n : ℕ) → n < 10 ^ 20 → of_decimal (plain n) ≡ n
unfolding plain
count_of n h = digits_of 20 n h

-- ---- a header's parts, from either count on
module _ (P F : ℕ) (body : List ℕ) where
  -- from the second
  pub parted_second : header P F ++ body ≡ (before_vertices ++ plain P ++ before_faces) ++ (plain F ++ (after_counts ++ body))
  unfolding header
  parted_second =
      append_assoc (before_vertices ++ plain P ++ before_faces ++ plain F) after_counts body
      ∙ append_assoc (before_vertices ++ plain P ++ before_faces) (plain F) (after_counts ++ body)

  -- from the first
  pub parted_first : header P F ++ body ≡ before_vertices ++ (plain P ++ (before_faces ++ (plain F ++ (after_counts ++ body))))
  parted_first =
      parted_second
      ∙ append_assoc (before_vertices ++ plain P) before_faces (plain F ++ (after_counts ++ body))
      ∙ append_assoc before_vertices (plain P) (before_faces ++ (plain F ++ (after_counts ++ body)))

-- ---- the header of P and F, and a body
module _ (P F : ℕ) (body : List ℕ) (p-few : P < 10 ^ 20) (f-few : F < 10 ^ 20) where
  -- its count of vertices is P: the digits up to the newline
  pub vertices_written : vertices_in (header P F ++ body) ≡ P
  unfolding vertices_in
  vertices_written =
      ap (λ l. of_decimal (line_end (drop (length before_vertices) l))) (parted_first P F body)
      ∙ ap (λ l. of_decimal (line_end l)) (drop-append_seam before_vertices _)
      ∙ ap (λ l. of_decimal (line_end (plain P ++ l))) (faces_line _)
      ∙ ap of_decimal (line_end_at (plain P) _ (no_newline P))
      ∙ count_of P p-few

  -- and its count of faces F, behind the header as far as P tells it
  pub faces_written : faces_in_is (header P F ++ body) ≡ F
  unfolding faces_in_is
  faces_written =
      ap (λ n. of_decimal (line_end (drop (length (before_vertices ++ plain n ++ before_faces)) (header P F ++ body)))) vertices_written
      ∙ ap (λ l. of_decimal (line_end (drop (length (before_vertices ++ plain P ++ before_faces)) l))) (parted_second P F body)
      ∙ ap (λ l. of_decimal (line_end l)) (drop-append_seam (before_vertices ++ plain P ++ before_faces) _)
      ∙ ap (λ l. of_decimal (line_end (plain F ++ l))) (after_line _)
      ∙ ap of_decimal (line_end_at (plain F) _ (no_newline F))
      ∙ count_of F f-few
