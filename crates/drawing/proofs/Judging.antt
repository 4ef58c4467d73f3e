-- The verdict by the table, and by the faces alone, for an edge call and for a loop call. Assumes nothing.
use mathlib.Core.Path.{◌≡◌, refl, sym, ap, ◌∙◌, subst}
use mathlib.Core.Bool.{Bool, true, false, true≢false}
use mathlib.Core.List.{List, [], ◌∷◌}
use Prim.Native.Nat.{ℕ, ◌+◌, ◌*◌}
use native.Mathlib.Omega.{arith}
use lib.ListN.{length}
use lib.Dec.{ltb}
use Rattle.rows.specs.Region.{Only}
use Rattle.rows.proofs.Regions.{only_none, only_both, only_more}
use Rattle.rules.specs.Mesh.{faces_of}
use Rattle.rules.specs.Steps.{step, users, edges}
use Rattle.rules.specs.Refusal.{Check, ok, no, decided}
use Rattle.rules.specs.Edges.{no7, no8}
use Rattle.rule_laws.proofs.Firsts.{fault_number}
use Rattle.rule_laws.proofs.Decided.{is_ok}
use Rattle.std.specs.Prelude.{Result, Ok, Err}
use Rattle.refuse.specs.Verdicts.{check_of, number_of, place_of}
use Rattle.refuse.specs.declared.Refusal.{Refusal}
use Rattle.refuse.specs.declared.Refusal.TheVariants.{BadBoundary}
use Rattle.refuse.proofs.Refusals.{refusal_of, refusal_is}
use Rattle.table.specs.Table.{TableAsks, TableGives}
use Rattle.boundary.specs.Rows.{CrowdAsks, CrowdGives, BoundaryGives}
use Rattle.boundary.proofs.Calling as calling
use Rattle.drawing.specs.Drawing.{taken, judged, JudgeAsks, JudgeGives, DrawAsks, DrawGives}

-- ---- by the table

module _ {w xs : List ℕ} {P m : ℕ} (a : JudgeAsks w xs P m) where
  -- what 7 asks
  abbrev pub crowd-asks : CrowdAsks w xs 0 m
  crowd-asks = record { P = P; tabled = a.tabled }

  -- 7 alone: nothing is written
  pub by_seven : {v : Result Unit Refusal} → ((q : CrowdAsks w xs 0 m) → CrowdGives q v) → JudgeGives false w xs P m w v
  by_seven g =
      record {
        only = only_none 0 (5 * length xs + 1 + P) w;
        says = g crowd-asks;
        stands = λ e. record { tabled = a.tabled; next = λ f. absurd (true≢false (sym f)) };
      }

  -- 7 and 8: only the rows are written
  pub by_both : {w' : List ℕ} {v : Result Unit Refusal} → BoundaryGives w xs P 0 m (5 * length xs + 1 + P) w' v → JudgeGives true w xs P m w' v
  by_both g =
      let s : 5 * length xs + 1 + P + 2 * P ≡ 5 * length xs + 1 + 3 * P = omega arith in
      record {
        only = only_more (omega arith) (omega arith) g.only;
        says = g.says;
        stands = λ e. record { tabled = g.tabled; next = λ f. rw s at (g.next e) };
      }

module _ {w xs : List ℕ} {P : ℕ} (a : DrawAsks w xs P) where
  -- the table fits
  pub table_asks : TableAsks w xs P 0
  table_asks = calling.table_asks a.faces a.room

  module _ {w₁ : List ℕ} {m : ℕ} (t : TableGives w xs P false 0 w₁ m) where
    -- so do the rows, behind it
    pub judge_asks : JudgeAsks w₁ xs P m
    judge_asks = calling.boundary_asks a.faces a.room t

    -- nothing beyond what is taken is written
    both_only : (loops : Bool) {w₂ : List ℕ} → Only 0 (taken loops P (length xs)) w₁ w₂ → Only 0 (taken loops P (length xs)) w w₂
    both_only true o = only_both (only_more (omega arith) (omega arith) t.only) o
    both_only false o = only_both (only_more (omega arith) (omega arith) t.only) o

    -- no refusal: all stands
    pub is_ready : {loops : Bool} {w₂ : List ℕ} → JudgeGives loops w₁ xs P m w₂ (Ok tt) → DrawGives loops w xs P w₂ (Ok m)
    is_ready {loops} g = record { only = both_only loops g.only; says = g.says; stands = g.stands refl }

    -- a refusal
    pub is_refused : {loops : Bool} {w₂ : List ℕ} {e : Refusal} → JudgeGives loops w₁ xs P m w₂ (Err e) → DrawGives loops w xs P w₂ (Err e)
    is_refused {loops} g = record { only = both_only loops g.only; says = g.says; stands = tt }

-- ---- by the faces alone

-- a refusal is not nothing
pub not_ok : {n p : ℕ} → no n p ≡ ok → ⊥
unfolding is_ok
not_ok e = subst is_ok (sym e) tt

-- the number of a refusal
number : Check → ℕ
number ok = 0
number (no n p) = n

module _ (P : ℕ) (xs : List ℕ) where
  -- 7 and 8 together
  abbrev both : Check
  both = judged true P xs

  -- 7 gives no other number
  seven_number : (c : Check) → no7 P (faces_of xs) ≡ c → (n p : ℕ) → c ≡ no n p → 7 ≡ n
  unfolding no7
  seven_number c e n p q = fault_number (λ d. ltb 2 (length (users (faces_of xs) d))) (step 0 0) 7 n (edges P (faces_of xs)) p (e ∙ q)

  -- where both find nothing, 7 does not
  fine_seven : both ≡ ok → judged false P xs ≡ ok
  unfolding decided
  fine_seven e = go (no7 P (faces_of xs)) refl e
    where
      go : (c : Check) → no7 P (faces_of xs) ≡ c → decided (c ∷ no8 P (faces_of xs) ∷ []) ≡ ok → decided (c ∷ []) ≡ ok
      go ok d h = refl
      go (no n p) d h = absurd (not_ok h)

  -- what is refused 8 is not refused 7
  eight_seven : (p : ℕ) → both ≡ no 8 p → judged false P xs ≡ ok
  unfolding decided number
  eight_seven p e = go (no7 P (faces_of xs)) refl e
    where
      go : (c : Check) → no7 P (faces_of xs) ≡ c → decided (c ∷ no8 P (faces_of xs) ∷ []) ≡ no 8 p → decided (c ∷ []) ≡ ok
      go ok d h = refl
      go (no n q) d h = absurd (omega (arith, seven_number (no n q) d n q refl, ap number h))

  -- and any other refusal is that of 7
  other_seven : (n p : ℕ) → (n ≡ 8 → ⊥) → both ≡ no n p → judged false P xs ≡ no n p
  unfolding decided no8 number
  other_seven n p h e = go (no7 P (faces_of xs)) (no8 P (faces_of xs)) refl e
    where
      go : (c d : Check) → no8 P (faces_of xs) ≡ d → decided (c ∷ d ∷ []) ≡ no n p → decided (c ∷ []) ≡ no n p
      go ok ok f k = absurd (not_ok (sym k))
      go ok (no m q) f k = absurd (h (sym (ap number k) ∙ sym (fault_number _ 0 8 m _ q f)))
      go (no m q) d f k = k

  -- ---- so what both found tells what 7 finds

  -- 8 is nothing for it
  pub alone_eight : {p : ℕ} → check_of {A = Unit} (Err (BadBoundary p)) ≡ both → ok ≡ judged false P xs
  alone_eight {p} s = sym (eight_seven p (sym s))

  -- nor is nothing
  pub alone_none : ok ≡ both → ok ≡ judged false P xs
  alone_none s = sym (fine_seven (sym s))

  -- all else stays
  pub alone_seven : {e : Refusal} → check_of {A = Unit} (Err e) ≡ both → ((p : ℕ) → e ≡ BadBoundary p → ⊥) → check_of {A = Unit} (Err e) ≡ judged false P xs
  alone_seven {e} s n = sym (other_seven (number_of e) (place_of e) (λ h. n (place_of e) (sym (refusal_is e) ∙ ap (λ k. refusal_of k (place_of e)) h)) (sym s))
