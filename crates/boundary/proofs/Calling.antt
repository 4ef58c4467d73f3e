-- What the edge call needs of the verdict by the table: that its rows fit, that a fault in a room of zeros leaves no trace, that the verdict by the faces
-- is this one, and that the boundary is then simple. Assumes nothing.
use mathlib.Core.Path.{◌≡◌, refl, sym, ap, ◌∙◌}
use mathlib.Core.Bool.{true, false}
use mathlib.Core.List.{List, [], ◌∷◌}
use Prim.Native.Nat.{ℕ, ◌+◌, ◌*◌, ◌/◌, ◌≤◌, ◌<◌}
use native.Mathlib.Omega.{arith}
use lib.ListN.{length, take}
use lib.Dec.{eqb}
use Rattle.rows.specs.Region.{Only, Filled, Apart.before}
use Rattle.rows.proofs.Regions.{only_both, only_more}
use Rattle.rules.specs.Lists.{all}
use Rattle.rules.specs.Mesh.{faces_of, face}
use Rattle.rules.specs.Refusal.{Check, ok, decided}
use Rattle.rules.specs.Edges.{boundary, no7, no8}
use Rattle.rules.specs.Rooms.{work_room}
use Rattle.rule_laws.proofs.Rising.{all_from}
use Rattle.rule_laws.proofs.Flat.{face_in, length_faces}
use Rattle.rule_laws.proofs.Decided.{decided_all}
use Rattle.rule_laws.proofs.Once.{CornersBelow, Inside}
use Rattle.rule_laws.proofs.Next.{Simple, no8_simple}
use Rattle.refuse.specs.Accepted.{Faces}
use Rattle.refuse.specs.Verdicts.{check_of}
use Rattle.std.specs.Prelude.{Result, Ok, Err}
use Rattle.refuse.specs.declared.Refusal.{Refusal}
use Rattle.table.specs.Table.{TableAsks, TableGives}
use Rattle.boundary.specs.Rows.{BoundaryAsks, BoundaryGives}
use Rattle.wiping.proofs.Zeros.{restored}

-- ---- verdicts

-- a verdict that finds nothing is fine
pub is_fine : (v : Result Unit Refusal) → check_of v ≡ ok → v ≡ Ok tt
is_fine (Ok tt) e = refl
is_fine (Err r) e = absurd (cc)

-- where one verdict is fine, another on the same checks is
pub same_fine : (v r : Result Unit Refusal) (c : Check) → v ≡ Ok tt → check_of v ≡ c → check_of r ≡ c → r ≡ Ok tt
same_fine v r c t e f = is_fine r (f ∙ sym e ∙ ap check_of t)

-- ---- accepted faces

module _ {P : ℕ} {xs : List ℕ} (f : Faces P xs) where
  -- their corners are points
  pub inside : Inside P (faces_of xs)
  unfolding face
  inside =
      all_from (CornersBelow P) (record { a = 0; b = 0; c = 0; origin = 0 }) (faces_of xs)
      (λ i l.
      let h : i < length xs / 3 = omega (arith, length_faces xs) in
      rw (face_in xs i h) (f.below (3 * i) (omega arith), f.below (3 * i + 1) (omega arith), f.below (3 * i + 2) (omega arith)))

  -- where the verdict is fine, their boundary is simple
  pub fine_simple : (r : Result Unit Refusal) → r ≡ Ok tt → check_of r ≡ decided (no7 P (faces_of xs) ∷ no8 P (faces_of xs) ∷ []) → Simple (boundary (faces_of xs))
  fine_simple r t e =
      no8_simple P (faces_of xs) inside (decided_all (no7 P (faces_of xs) ∷ no8 P (faces_of xs) ∷ []) (sym e ∙ ap check_of t)).1.0

-- ---- the stated work room

-- as the code writes it
abbrev pub stated : ℕ → List ℕ → ℕ
stated P xs = 16 * P + 64 * (length xs / 3) + 64

-- what table and rows take of it, from its front
abbrev pub taken : ℕ → List ℕ → ℕ
taken P xs = 5 * length xs + 1 + 4 * P

-- it is a part of it
pub taken_stated : {P : ℕ} {xs : List ℕ} → Faces P xs → taken P xs ≤ stated P xs
taken_stated f = omega (arith, f.whole)

module _ {P : ℕ} {xs w : List ℕ} (f : Faces P xs) (room : work_room P (length xs / 3) ≤ length w) where
  -- the table at 0 is within it
  pub table_asks : TableAsks w xs P 0
  unfolding work_room
  table_asks = record { whole = f.whole; few = omega (arith, f.few); fit = omega (arith, f.whole, room); inside = f.below }

  module _ {w₁ : List ℕ} {m : ℕ} (g : TableGives w xs P false 0 w₁ m) where
    -- and the rows are, behind the table
    pub boundary_asks : BoundaryAsks w₁ xs P 0 m (5 * length xs + 1 + P)
    unfolding work_room
    boundary_asks =
        record {
          points = omega (arith, f.points);
          tabled = g.tabled;
          fit = omega (arith, f.whole, room, g.only.long);
          apart = before (omega arith);
        }

    module _ {w₂ : List ℕ} {r : Result Unit Refusal} (b : BoundaryGives w₁ xs P 0 m (5 * length xs + 1 + P) w₂ r) where
      -- they write nothing else
      pub written : (n : ℕ) → taken P xs ≤ n → Only 0 n w w₂
      written n h = only_both (only_more (omega arith) (omega arith) g.only) (only_more (omega arith) (omega arith) b.only)

      -- the room is as long as before, and may be cleared
      pub still_fits : stated P xs ≤ length w₂
      unfolding work_room
      still_fits = omega (arith, room, g.only.long, b.only.long)

      -- where all that they take was 0, it is as it was once it is cleared
      pub unwritten :
          (n : ℕ) → taken P xs ≤ n → n ≤ stated P xs → all (eqb 0) (take n w) ≡ true
          → {w₃ : List ℕ} → Only 0 n w₂ w₃ → Filled 0 n 0 w₃ → w₃ ≡ w
      unfolding work_room
      unwritten n h k e o z = restored w n (omega (arith, room)) e (only_both (written n h) o) z
