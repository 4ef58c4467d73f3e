-- The repairs of packed meshes, one after the other: how many, which is mesh k's, the sums of the rows, the largest work room, and how much they share
-- together. Assumes nothing.
use mathlib.Core.Path.{◌≡◌, refl, sym, ap, ◌∙◌}
use mathlib.Core.List.{List, [], ◌∷◌, ◌++◌}
use Prim.Native.Nat.{ℕ, zero, suc, ◌+◌, ◌*◌, ◌/◌, ◌≤◌, ◌<◌, max}
use native.Mathlib.Nat.{not-suc-le-zero, le_of_suc-le-suc}
use native.Mathlib.Omega.{arith}
use lib.Ieee.{Float}
use lib.ListN.{length, get_or, take, drop, length-append, length-take, length-drop, take-append-drop}
use lib.Seq.{take-suc, drop-drop, length-take-le}
use Rattle.rules.specs.Lists.{each}
use Rattle.rules.specs.State.{report_counts}
use Rattle.rules.specs.Rooms.{work_room, Answer, accepted, refused, Outcome}
use Rattle.rules.specs.RepairCall.{RepairRooms}
use Rattle.rules.specs.PanelCall.{total, one_call, own_calls, its_points, its_faces, its_counts, its_origins, four, largest}
use Rattle.rule_laws.proofs.Lists.{length_each}
use Rattle.panel_laws.specs.Cutting.{mesh_part}
use Rattle.panel_laws.proofs.Alone.{Shares, one_shares}

-- ---- sums of a row

-- of two rows, one after the other
pub total_append : (xs ys : List ℕ) → total (xs ++ ys) ≡ total xs + total ys
unfolding total
total_append [] ys = omega arith
total_append (x ∷ xs) ys = let h = total_append xs ys in omega arith

-- one count more
pub total_next : (xs : List ℕ) (k : ℕ) → k < length xs → total (take (suc k) xs) ≡ total (take k xs) + get_or xs k 0
unfolding total
total_next xs k h = ap total (take-suc xs k 0 h) ∙ total_append (take k xs) (get_or xs k 0 ∷ []) ∙ omega arith

-- the first counts are no more than all
pub total_take : (xs : List ℕ) (k : ℕ) → total (take k xs) ≤ total xs
total_take xs k = let e = ap total (take-append-drop k xs) in let f = total_append (take k xs) (drop k xs) in omega arith

-- ---- the largest work room

-- it is no smaller than that of mesh k
pub largest_at : (ps fs : List ℕ) (k : ℕ) → length ps ≡ length fs → k < length ps → work_room (get_or ps k 0) (get_or fs k 0) ≤ largest ps fs
unfolding largest
largest_at [] fs k e h = absurd (not-suc-le-zero h)
largest_at (p ∷ ps) [] k e h = absurd (omega arith)
largest_at (p ∷ ps) (f ∷ fs) zero e h = omega arith
largest_at (p ∷ ps) (f ∷ fs) (suc k) e h = let r = largest_at ps fs k (omega arith) (le_of_suc-le-suc h) in omega arith

-- one mesh more
pub largest_next :
    (ps fs : List ℕ) (k : ℕ) → length ps ≡ length fs → k < length ps
    → largest (take (suc k) ps) (take (suc k) fs) ≡ max (largest (take k ps) (take k fs)) (work_room (get_or ps k 0) (get_or fs k 0))
unfolding largest
largest_next [] fs k e h = absurd (not-suc-le-zero h)
largest_next (p ∷ ps) [] k e h = absurd (omega arith)
largest_next (p ∷ ps) (f ∷ fs) zero e h = omega arith
largest_next (p ∷ ps) (f ∷ fs) (suc k) e h = let r = largest_next ps fs k (omega arith) (le_of_suc-le-suc h) in omega arith

-- ---- the repairs, mesh by mesh

-- what mesh k + 1 has is what mesh k has when the first one is taken off
part_after : {A : Type 0} (n : ℕ) (ns : List ℕ) (xs : List A) (k : ℕ) → mesh_part (n ∷ ns) xs (suc k) ≡ mesh_part ns (drop (3 * n) xs) k
unfolding total
part_after n ns xs k =
    let e : 3 * (n + total (take k ns)) ≡ 3 * n + 3 * total (take k ns) = omega arith in
    ap (take (3 * get_or ns k 0)) (ap (λ m. drop m xs) e ∙ sym (drop-drop (3 * total (take k ns)) (3 * n) xs))

-- where the row adds up to the list, mesh k has three entries a count
pub length_part : {A : Type 0} (ns : List ℕ) (xs : List A) (k : ℕ) → 3 * total ns ≤ length xs → k < length ns → length (mesh_part ns xs k) ≡ 3 * get_or ns k 0
length_part ns xs k h l =
    let a = total_next ns k l in
    let b = total_take ns (suc k) in
    length-take-le (3 * get_or ns k 0) (drop (3 * total (take k ns)) xs) (omega (arith, length-drop (3 * total (take k ns)) xs))

module _ (s : Float) (options : ℕ) where
  -- one a mesh
  pub length_own_calls : (ps fs : List ℕ) (points : List Float) (faces : List ℕ) → length ps ≡ length fs → length (own_calls s options ps fs points faces) ≡ length ps
  unfolding own_calls
  length_own_calls [] fs points faces e = refl
  length_own_calls (p ∷ ps) [] points faces e = absurd (omega arith)
  length_own_calls (p ∷ ps) (f ∷ fs) points faces e = ap suc (length_own_calls ps fs (drop (3 * p) points) (drop (3 * f) faces) (omega arith))

  -- mesh k's repair is that of its points and faces
  pub own_call_at :
      (ps fs : List ℕ) (points : List Float) (faces : List ℕ) (k : ℕ) (d : Outcome RepairRooms) → length ps ≡ length fs → k < length ps
      → get_or (own_calls s options ps fs points faces) k d ≡ one_call s options (mesh_part ps points k) (mesh_part fs faces k)
  unfolding own_calls
  own_call_at [] fs points faces k d e h = absurd (not-suc-le-zero h)
  own_call_at (p ∷ ps) [] points faces k d e h = absurd (omega arith)
  own_call_at (p ∷ ps) (f ∷ fs) points faces zero d e h = unfold total in refl
  own_call_at (p ∷ ps) (f ∷ fs) points faces (suc k) d e h =
      own_call_at ps fs (drop (3 * p) points) (drop (3 * f) faces) k d (omega arith) (le_of_suc-le-suc h)
      ∙ (λ i. one_call s options (sym (part_after p ps points k) i) (sym (part_after f fs faces k) i))

  -- one mesh more is its repair more
  pub own_calls_next :
      (ps fs : List ℕ) (points : List Float) (faces : List ℕ) (k : ℕ) → length ps ≡ length fs → k < length ps
      → own_calls s options (take (suc k) ps) (take (suc k) fs) points faces
      ≡ own_calls s options (take k ps) (take k fs) points faces ++ (one_call s options (mesh_part ps points k) (mesh_part fs faces k) ∷ [])
  unfolding own_calls
  own_calls_next [] fs points faces k e h = absurd (not-suc-le-zero h)
  own_calls_next (p ∷ ps) [] points faces k e h = absurd (omega arith)
  own_calls_next (p ∷ ps) (f ∷ fs) points faces zero e h = unfold total in refl
  own_calls_next (p ∷ ps) (f ∷ fs) points faces (suc k) e h =
      ap (λ l. one_call s options (take (3 * p) points) (take (3 * f) faces) ∷ l)
      (own_calls_next ps fs (drop (3 * p) points) (drop (3 * f) faces) k (omega arith) (le_of_suc-le-suc h)
      ∙ (λ i. own_calls s options (take k ps) (take k fs) (drop (3 * p) points) (drop (3 * f) faces) ++ (one_call s options (sym (part_after p ps points k) i) (sym (part_after f fs faces k) i) ∷ [])))

-- ---- how much they share together

-- what the repairs of these meshes share, packed, is at most as long as the rooms stated for them
pub record AllShare (ps fs : List ℕ) (os : List (Outcome RepairRooms)) : Type 0 where
  pub points_fit : length (each its_points os) ≤ 3 * (total ps + 3 * total fs)
  pub faces_fit : length (each its_faces os) ≤ 3 * total fs
  pub counts_fit : length (each its_counts os) ≤ report_counts * length ps
  pub origins_fit : length (each its_origins os) ≤ total fs
  pub fours_fit : length (each (λ o. four o.answer) os) ≤ 4 * length ps

-- each mesh has four entries
pub length_four : (a : Answer) → length (four a) ≡ 4
unfolding four
length_four (accepted entries) = refl
length_four (refused n p) = refl

-- all of them together
pub length_fours : (os : List (Outcome RepairRooms)) → length (each (λ o. four o.answer) os) ≡ 4 * length os
length_fours os = length_each 4 (λ o. four o.answer) (λ o. length_four o.answer) os

-- no mesh
none_shared : (ps fs : List ℕ) → AllShare ps fs []
unfolding each
none_shared ps fs = record { points_fit = omega arith; faces_fit = omega arith; counts_fit = omega arith; origins_fit = omega arith; fours_fit = omega arith }

-- a mesh in front
one_more :
    (p f P F : ℕ) (ps fs : List ℕ) (o : Outcome RepairRooms) (os : List (Outcome RepairRooms)) → P ≤ p → F ≤ f → Shares P F o → AllShare ps fs os
    → AllShare (p ∷ ps) (f ∷ fs) (o ∷ os)
unfolding each total
one_more p f P F ps fs o os a b h k =
    record {
      points_fit = omega (arith, length-append (its_points o) (each its_points os), h.points_fit, k.points_fit);
      faces_fit = omega (arith, length-append (its_faces o) (each its_faces os), h.faces_fit, k.faces_fit);
      counts_fit = omega (arith, length-append (its_counts o) (each its_counts os), h.counts_fit, k.counts_fit);
      origins_fit = omega (arith, length-append (its_origins o) (each its_origins os), h.origins_fit, k.origins_fit);
      fours_fit = omega (arith, length-append (four o.answer) (each (λ q. four q.answer) os), length_four o.answer, k.fours_fit);
    }

-- the repairs of a pack
pub own_calls_share :
    (s : Float) (options : ℕ) (ps fs : List ℕ) (points : List Float) (faces : List ℕ) → AllShare ps fs (own_calls s options ps fs points faces)
unfolding own_calls
own_calls_share s options [] fs points faces = none_shared [] fs
own_calls_share s options (p ∷ ps) [] points faces = none_shared (p ∷ ps) []
own_calls_share s options (p ∷ ps) (f ∷ fs) points faces =
    one_more p f (length (take (3 * p) points) / 3) (length (take (3 * f) faces) / 3) ps fs _ _
    (omega (arith, length-take (3 * p) points)) (omega (arith, length-take (3 * f) faces))
    (one_shares (take (3 * p) points) (take (3 * f) faces) s options) (own_calls_share s options ps fs (drop (3 * p) points) (drop (3 * f) faces))
