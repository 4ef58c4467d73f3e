-- The four entries of a mesh tell how long its parts are, and which numbers a repair may give. Assumes nothing.
use mathlib.Core.Path.{◌≡◌, refl, sym, ap, ◌∙◌}
use mathlib.Core.Bool.{cond}
use mathlib.Core.List.{List, [], ◌∷◌}
use Prim.Native.Nat.{ℕ, ◌*◌, ◌/◌, ◌%◌, ◌<◌}
use native.Mathlib.Omega.{arith}
use borrow.Author.Tests.{eq-eqb, ne_eqb}
use lib.Dec.{eqb}
use lib.Ieee.{Float}
use lib.ListN.{length, get_or}
use Rattle.rules.specs.State.{report_counts}
use Rattle.rules.specs.Refusal.{Check, ok, no, at_first, no1, no2, no3_threshold, no3_options, no4, no5, no6}
use Rattle.rules.specs.Rooms.{accepted, refused, Outcome, outcome}
use Rattle.rules.specs.RepairCall.{RepairRooms, repair_check, repair}
use Rattle.rules.specs.PanelCall.{its_points, its_faces, its_counts, its_origins, four}
use Rattle.rule_laws.proofs.Decided.{IfFound, found_none, found_by, found_first, unless_is}
use Rattle.rule_laws.proofs.Called.{outcome_is}
use Rattle.panel_laws.proofs.Alone.{LongEnough, long_six, if_ok, mended, its_points_are, its_faces_are, its_counts_are, its_origins_are, points_number, faces_number, counts_number, origins_number}

-- ---- how a repair ends

-- mended, with p points and f faces; or refused, with a number that is not 0, and nothing shared
pub data Ended (o : Outcome RepairRooms) : Type 0 where
  mends :
      (p f : ℕ) → o.answer ≡ accepted (3 * p ∷ 3 * f ∷ report_counts ∷ f ∷ []) → length (its_points o) ≡ 3 * p → length (its_faces o) ≡ 3 * f
      → length (its_counts o) ≡ report_counts → length (its_origins o) ≡ f → Ended o
  refuses :
      (n place : ℕ) → 0 < n → o.answer ≡ refused n place → its_points o ≡ [] → its_faces o ≡ [] → its_counts o ≡ [] → its_origins o ≡ [] → Ended o

-- a refusal's answer
outcome_no : {R : Type 0} (c : Check) (given : R) (entries : List ℕ) (after : R) (n p : ℕ) → c ≡ no n p → (outcome c given entries after).answer ≡ refused n p
unfolding outcome
outcome_no c given entries after n p e = rw e

-- a number that is not 0
abbrev Some : ℕ → Type 0
Some n = 0 < n

module _ (points : List Float) (faces : List ℕ) (s : Float) (options : ℕ) (r : RepairRooms) where
  -- no number of the table is 0
  check_some : IfFound Some (repair_check points faces s options r)
  unfolding repair_check no1 no2 no3_threshold no3_options no4 no5 no6 at_first
  check_some =
      found_first Some _
      (found_by Some 1 0 _ (omega arith), (found_by Some 1 1 _ (omega arith), (found_by Some 2 0 _ (omega arith), (found_by Some 2 1 _ (omega arith), (found_by Some 3 0 _ (omega arith), (found_by Some 3 1 _ (omega arith), (found_by Some 4 _ _ (omega arith), (found_by Some 5 _ _ (omega arith), (found_by Some 6 _ _ (omega arith), tt)))))))))

  -- by what its check finds
  pub repair_ended : Ended (repair points faces s options r)
  unfolding if_ok
  repair_ended = go (repair_check points faces s options r) refl check_some
    where
      go : (c : Check) → repair_check points faces s options r ≡ c → IfFound Some c → Ended (repair points faces s options r)
      go ok e h =
          mends (length (mended points faces s options).points) (length (mended points faces s options).faces)
          (unfold repair in outcome_is (repair_check points faces s options r) r _ _ e)
          (points_number points faces s options r e) (faces_number points faces s options r e)
          (counts_number points faces s options r e) (origins_number points faces s options r e)
      go (no n p) e h =
          refuses n p h (unfold repair in outcome_no (repair_check points faces s options r) r _ _ n p e)
          (rw e at (its_points_are points faces s options r)) (rw e at (its_faces_are points faces s options r))
          (rw e at (its_counts_are points faces s options r)) (rw e at (its_origins_are points faces s options r))

-- ---- what the four entries tell

-- how long its parts are
pub record Told (o : Outcome RepairRooms) : Type 0 where
  pub points_told : length (its_points o) ≡ 3 * get_or (four o.answer) 2 0
  pub faces_told : length (its_faces o) ≡ 3 * get_or (four o.answer) 3 0
  pub counts_told : length (its_counts o) ≡ report_counts * cond (eqb (get_or (four o.answer) 0 0) 0) 1 0
  pub origins_told : length (its_origins o) ≡ get_or (four o.answer) 3 0

-- by how it ended
pub ended_told : (o : Outcome RepairRooms) → Ended o → Told o
unfolding four
ended_told o (mends p f e a b c d) =
    let points_are : get_or (four o.answer) 2 0 ≡ 3 * p / 3 = ap (λ x. get_or (four x) 2 0) e in
    let faces_are : get_or (four o.answer) 3 0 ≡ 3 * f / 3 = ap (λ x. get_or (four x) 3 0) e in
    record {
      points_told = omega arith;
      faces_told = omega arith;
      counts_told = c ∙ sym (ap (λ x. report_counts * cond (eqb (get_or (four x) 0 0) 0) 1 0) e);
      origins_told = omega arith;
    }
ended_told o (refuses n place h e a b c d) =
    record {
      points_told = ap length a ∙ sym (ap (λ x. 3 * get_or (four x) 2 0) e);
      faces_told = ap length b ∙ sym (ap (λ x. 3 * get_or (four x) 3 0) e);
      counts_told = ap length c ∙ sym (ap (λ x. report_counts * cond (eqb (get_or (four x) 0 0) 0) 1 0) e ∙ ap (λ x. report_counts * cond x 1 0) (ne_eqb n 0 (λ z. omega arith)));
      origins_told = ap length d ∙ sym (ap (λ x. get_or (four x) 3 0) e);
    }

-- number 0 is an acceptance
pub zero_accepted : (o : Outcome RepairRooms) → Ended o → get_or (four o.answer) 0 0 ≡ 0 → (n : List ℕ) × (o.answer ≡ accepted n)
unfolding four
zero_accepted o (mends p f e a b c d) z = (3 * p ∷ 3 * f ∷ report_counts ∷ f ∷ [], e)
zero_accepted o (refuses n place h e a b c d) z = absurd (let k : n ≡ 0 = sym (ap (λ x. get_or (four x) 0 0) e) ∙ z in omega arith)

-- ---- the numbers of a mesh

-- 0, 2, 4 or 5
pub data Own (n : ℕ) : Type 0 where
  mended_one : n ≡ 0 → Own n
  too_many : n ≡ 2 → Own n
  bad_point : n ≡ 4 → Own n
  bad_corner : n ≡ 5 → Own n

-- the number among the four entries is what the check found
found_own : {R : Type 0} (c : Check) (given : R) (entries : List ℕ) (after : R) → IfFound Own c → Own (get_or (four (outcome c given entries after).answer) 0 0)
unfolding four outcome
found_own ok given entries after h = mended_one refl
found_own (no n p) given entries after h = h

-- a repair of whole points and faces, with good settings and rooms that are long enough
pub repair_own :
    (points : List Float) (faces : List ℕ) (s : Float) (options : ℕ) (r : RepairRooms) → length points % 3 ≡ 0 → length faces % 3 ≡ 0
    → no3_threshold s ≡ ok → no3_options options ≡ ok → LongEnough (length points / 3) (length faces / 3) r
    → Own (get_or (four (repair points faces s options r).answer) 0 0)
unfolding repair
repair_own points faces s options r a b t o e =
    found_own (repair_check points faces s options r) r _ _
    (unfold repair_check no1 no2 no4 no5 at_first in
    (found_first Own _
    (found_none Own _ (unless_is 1 0 _ (eq-eqb (length points % 3) 0 a)), (found_none Own _ (unless_is 1 1 _ (eq-eqb (length faces % 3) 0 b)), (found_by Own 2 0 _ (too_many refl), (found_by Own 2 1 _ (too_many refl), (found_none Own _ t, (found_none Own _ o, (found_by Own 4 _ _ (bad_point refl), (found_by Own 5 _ _ (bad_corner refl), (found_none Own _ (long_six (length points / 3) (length faces / 3) r e), tt)))))))))))
