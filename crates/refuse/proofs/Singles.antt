-- Single checks: what each says where its test came out one way or the other, and what is known where it finds nothing. Assumes nothing.
use mathlib.Core.Path.{◌≡◌}
use mathlib.Core.Bool.{true, false, ◌&&◌}
use mathlib.Core.List.{List}
use Prim.Native.Nat.{ℕ, ◌/◌, ◌%◌, ◌≤◌, ◌<◌}
use borrow.Author.Tests.{eq-eqb, ne_eqb, le-leb, lt-leb}
use lib.ListN.{length}
use lib.Dec.{leb, leb→le}
use lib.Ieee.{Float, le}
use Rattle.rules.specs.Mesh.{zero64}
use Rattle.rules.specs.Float.{one64}
use Rattle.rules.specs.Refusal.{ok, no, unless, decided, no1, no2, no3_threshold, no3_options, no10, most_points, most_faces}
use Rattle.rule_laws.proofs.Decided.{decided_all, unless_ok}
use Rattle.refuse.specs.Verdicts.{counts, sizes, Limits}

-- ---- 1

-- a multiple of 3
pub thirds : (p n : ℕ) → n % 3 ≡ 0 → ok ≡ no1 p n
unfolding no1 unless
thirds p n e = rw (eq-eqb (n % 3) 0 e)

-- no multiple of 3
pub no_thirds : (p n : ℕ) → (n % 3 ≡ 0 → ⊥) → no 1 p ≡ no1 p n
unfolding no1 unless
no_thirds p n e = rw (ne_eqb (n % 3) 0 e)

-- ---- 2

-- not too many
pub few : (p n most : ℕ) → n ≤ most → ok ≡ no2 p n most
unfolding no2 unless
few p n most h = rw (le-leb n most h)

-- too many
pub many : (p n most : ℕ) → most < n → no 2 p ≡ no2 p n most
unfolding no2 unless
many p n most h = rw (lt-leb n most h)

-- where 2 finds nothing there are not too many
pub no2_fine : (p n most : ℕ) → no2 p n most ≡ ok → n ≤ most
unfolding no2
no2_fine p n most e = leb→le n most (unless_ok 2 p (leb n most) e)

-- so the rooms can be reckoned from P and F
pub counts_fine : (P F : ℕ) → decided (counts P F) ≡ ok → Limits P F
counts_fine P F e =
    let a = decided_all (counts P F) e in
    record { points = no2_fine 0 P most_points a.0; faces = no2_fine 1 F most_faces a.1.0 }

-- the same after 1 and 2
pub sizes_fine : (points faces : ℕ) → decided (sizes points faces) ≡ ok → Limits (points / 3) (faces / 3)
sizes_fine points faces e =
    let a = decided_all (sizes points faces) e in
    record { points = no2_fine 0 (points / 3) most_points a.1.1.0; faces = no2_fine 1 (faces / 3) most_faces a.1.1.1.0 }

-- ---- 3

-- s lies in 0..1
pub in_unit : (s : Float) → (le zero64 s && le s one64) ≡ true → ok ≡ no3_threshold s
unfolding no3_threshold unless
in_unit s e = rw e

-- s does not
pub not_in_unit : (s : Float) → (le zero64 s && le s one64) ≡ false → no 3 0 ≡ no3_threshold s
unfolding no3_threshold unless
not_in_unit s e = rw e

-- six bits
pub six_bits : (o : ℕ) → o ≤ 63 → ok ≡ no3_options o
unfolding no3_options unless
six_bits o h = rw (le-leb o 63 h)

-- more bits
pub more_bits : (o : ℕ) → 63 < o → no 3 1 ≡ no3_options o
unfolding no3_options unless
more_bits o h = rw (lt-leb o 63 h)

-- ---- 10

-- as many labels as faces
pub as_many : (F : ℕ) (labels : List ℕ) → length labels ≡ F → ok ≡ no10 F labels
unfolding no10 unless
as_many F labels e = rw (eq-eqb (length labels) F e)

-- another number of labels
pub other_number : (F : ℕ) (labels : List ℕ) → (length labels ≡ F → ⊥) → no 10 0 ≡ no10 F labels
unfolding no10 unless
other_number F labels e = rw (ne_eqb (length labels) F e)
