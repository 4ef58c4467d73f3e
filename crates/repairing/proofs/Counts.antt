-- The counts of a report are small, whatever the options are: none is above 2P + 15F. Assumes nothing.
use mathlib.Core.Path.{refl}
use mathlib.Core.Bool.{Bool, true, false, cond}
use mathlib.Core.List.{List, [], ◌∷◌}
use Prim.Native.Nat.{ℕ, zero, suc, ◌+◌, ◌-◌, ◌*◌, ◌≤◌, ◌<◌, ◌^◌}
use native.Mathlib.Omega.{arith}
use lib.Dec.{ltb}
use lib.Ieee.{Float}
use lib.ListN.{length, get_or, set, drop, replicate, length-append}
use Rattle.rules.specs.Lists.{below, count, through}
use Rattle.rules.specs.Mesh.{Point, Face, point}
use Rattle.rules.specs.State.{State, Count, report_counts, place, more, start, counted, with_faces, dropped, crowded_edges, dropped_at_edges, dropped_for_direction, repeateds, thins, duplicates, vertices_split, points_added, reoriented, components, isolated}
use Rattle.rules.specs.Steps.{users, edges}
use Rattle.rules.specs.Pass1.{repeated1, thin1, pass1}
use Rattle.rules.specs.Pass2.{marked2, pass2}
use Rattle.rules.specs.Pass3.{crowded, marked3, pass3}
use Rattle.rules.specs.Pass4.{oriented, marked4, pass4}
use Rattle.rules.specs.Pass5.{fans, split_off, split, pass5}
use Rattle.rules.specs.Pass6.{marked6, pass6}
use Rattle.rules.specs.Repair.{bit, optional, passes, repaired}
use Rattle.rule_laws.proofs.Lists.{through_keeps, through_last}
use Rattle.rule_laws.proofs.Counting.{count_below_le, filter_le}
use Rattle.rule_laws.proofs.Fits.{few_edges}
use Rattle.rule_laws.proofs.Once.{Inside}
use Rattle.rule_laws.proofs.Turning.{oriented_turned}
use Rattle.repairing.proofs.Copies.{pass5_points}
use Rattle.repairing.proofs.Exchanges.{few_exchanges}
use Rattle.repairing.proofs.Fitting.{Fits, pass1_fits, pass2_fits, pass3_fits, pass4_fits, pass5_fits, pass6_fits}

-- no count is above B
pub record Low (B : ℕ) (report : List ℕ) : Type 0 where
  pub each : (j : ℕ) → get_or report j 0 ≤ B

-- an entry is stored that is not above B
set_low : (B : ℕ) (xs : List ℕ) (p v : ℕ) → v ≤ B → ((j : ℕ) → get_or xs j 0 ≤ B) → (j : ℕ) → get_or (set xs p v) j 0 ≤ B
set_low B [] p v h a j = a j
set_low B (x ∷ xs) zero v h a zero = h
set_low B (x ∷ xs) zero v h a (suc j) = a (suc j)
set_low B (x ∷ xs) (suc p) v h a zero = a zero
set_low B (x ∷ xs) (suc p) v h a (suc j) = set_low B xs p v h (λ i. a (suc i)) j

-- n more at a count
more_low : {B : ℕ} (K : ℕ) (c : Count) (n : ℕ) (report : List ℕ) → n ≤ K → Low B report → Low (B + K) (more c n report)
unfolding more
more_low {B} K c n report h l =
    record { each = set_low (B + K) report (place c) (get_or report (place c) 0 + n) (omega (arith, l.each (place c))) (λ j. omega (arith, l.each j)) }

module _ {B F : ℕ} where
  -- faces that leave
  dropped_low : (c : Count) (marked : ℕ → Bool) (m : State) → length m.faces ≤ F → Low B m.report → Low (B + F) (dropped c marked m).report
  unfolding dropped counted with_faces
  dropped_low c marked m h l = more_low F c (count marked (below (length m.faces))) m.report (omega (arith, count_below_le marked (length m.faces))) l

  pass1_low : (s : Float) (m : State) → length m.faces ≤ F → Low B m.report → Low (B + F + F) (pass1 s m).report
  unfolding pass1 counted with_faces
  pass1_low s m h l =
      let n = length m.faces in
      more_low F thins _ _ (omega (arith, count_below_le (thin1 s m.points m.faces) n))
      (more_low F repeateds _ m.report (omega (arith, count_below_le (repeated1 s m.points m.faces) n)) l)

  pass2_low : (m : State) → length m.faces ≤ F → Low B m.report → Low (B + F) (pass2 m).report
  unfolding pass2
  pass2_low m h l = dropped_low duplicates (marked2 m.faces) m h l

-- there are at most three edges a face
crowded_few : {F : ℕ} (m : State) → length m.faces ≤ F → length (crowded (length m.points) m.faces) ≤ 3 * F
unfolding crowded
crowded_few m h = omega (arith, filter_le (λ e. ltb 2 (length (users m.faces e))) (edges (length m.points) m.faces), few_edges (length m.points) m.faces)

pass3_low : {B F : ℕ} (m : State) → length m.faces ≤ F → Low B m.report → Low (B + 3 * F + F) (pass3 m).report
unfolding pass3 counted
pass3_low {B} {F} m h l =
    let n = length (crowded (length m.points) m.faces) in
    dropped_low dropped_at_edges (marked3 m.points m.faces) (counted crowded_edges n m) h (more_low (3 * F) crowded_edges n m.report (crowded_few m h) l)

pass4_low : {B F : ℕ} (m : State) → length m.faces ≤ F → Low B m.report → Low (B + F + F + F) (pass4 m).report
unfolding pass4 dropped counted with_faces
pass4_low {B} {F} m h l =
    let o = oriented m.faces in
    let e = few_exchanges m.faces in
    more_low F dropped_for_direction _ _ (omega (arith, count_below_le (marked4 m.points o.walk.faces) (length o.walk.faces), (oriented_turned m.faces).0))
    (more_low F components o.marks _ (omega (arith, e.1)) (more_low F reoriented o.walk.exchanges m.report (omega (arith, e.0)) l))

-- ---- pass 5: each copy is a point more

-- no count is above C and the points that there are beyond L
record Paid (L C : ℕ) (m : State) : Type 0 where
  each : (j : ℕ) → get_or m.report j 0 + L ≤ C + length m.points
  grown : L ≤ length m.points

-- one group that is split off
off_paid : {L C : ℕ} (v : ℕ) (m : State) (fan : List ℕ) → Paid L C m → Paid L C (split_off v m fan)
unfolding split_off
off_paid {L} {C} v m fan p =
    let n = length-append m.points (point m.points v ∷ []) in
    let low = more_low 1 points_added 1 m.report (omega arith) (record { each = λ j. below_it j }) in
    record { each = λ j. omega (arith, low.each j, p.grown); grown = omega (arith, p.grown) }
  where
    below_it : (j : ℕ) → get_or m.report j 0 ≤ C + length m.points - L
    below_it j = omega (arith, p.each j)

-- one vertex, which is counted
split_paid : {L C : ℕ} (m : State) (v : ℕ) → Paid L C m → Paid L (suc C) (split m v)
unfolding split counted
split_paid {L} {C} m v p =
    let gs = fans m.faces v in
    let n : ℕ = cond (ltb 1 (length gs)) 1 0 in
    let low = more_low 1 vertices_split n m.report (one (ltb 1 (length gs))) (record { each = λ j. below_it j }) in
    through_keeps (Paid L (suc C)) (split_off v) (λ x g q. off_paid v x g q) (drop 1 gs) (counted vertices_split n m) (record { each = λ j. omega (arith, low.each j, p.grown); grown = p.grown })
  where
    one : (b : Bool) → cond b 1 0 ≤ 1
    one true = omega arith
    one false = omega arith

    below_it : (j : ℕ) → get_or m.report j 0 ≤ C + length m.points - L
    below_it j = omega (arith, p.each j)

-- all of them
turns_paid : {L C : ℕ} (m : State) → Paid L C m → (k : ℕ) → Paid L (C + k) (through split m (below k))
turns_paid {L} {C} m p zero = unfold through below in (record { each = λ j. omega (arith, p.each j); grown = p.grown })
turns_paid {L} {C} m p (suc k) =
    let r = split_paid (through split m (below k)) k (turns_paid m p k) in
    rw (through_last split m k) (record { each = λ j. omega (arith, r.each j); grown = r.grown })

pass5_low : {B N F : ℕ} (m : State) → Fits N F m → Low B m.report → Low (B + N + 3 * F) (pass5 m).report
pass5_low {B} {N} {F} m f l =
    let r : Paid (length m.points) (B + length m.points) (pass5 m) = unfold pass5 in (turns_paid {C = B} m (record { each = λ j. omega (arith, l.each j); grown = omega arith }) (length m.points)) in
    record { each = λ j. omega (arith, r.each j, r.grown, pass5_points m f.kept.inside, f.points, f.kept.faces) }

-- pass 6 counts points
pass6_low : {B N F : ℕ} (m : State) → Fits N F m → Low B m.report → Low (B + N) (pass6 m).report
unfolding pass6
pass6_low {B} {N} m f l = more_low N isolated _ m.report (omega (arith, count_below_le (marked6 m.faces) (length m.points), f.points)) l

-- ---- all passes

-- what fits, with no count above B
record Both (N F B : ℕ) (m : State) : Type 0 where
  fits : Fits N F m
  low : Low B m.report

-- a pass whose option is not set changes nothing
optional_both : {N M F B C : ℕ} (b : Bool) (pass : State → State) (m : State) → N ≤ M → B ≤ C → ((n : State) → Both N F B n → Both M F C (pass n)) → Both N F B m → Both M F C (optional b pass m)
unfolding optional
optional_both true pass m l h f k = f m k
optional_both false pass m l h f k =
    record { fits = record { points = omega (arith, k.fits.points); kept = k.fits.kept }; low = record { each = λ j. omega (arith, k.low.each j) } }

-- a report's bound may be written otherwise
low_at : {B C : ℕ} {report : List ℕ} → B ≤ C → Low B report → Low C report
low_at h l = record { each = λ j. omega (arith, l.each j) }

-- all six
passes_both : (N F : ℕ) (s : Float) (options : ℕ) (m : State) → Both N F 0 m → Both (N + 3 * F) F (2 * N + 16 * F) (passes s options m)
unfolding passes
passes_both N F s options m k =
    optional_both {N = N + 3 * F} {M = N + 3 * F} {F = F} {B = N + 13 * F} {C = 2 * N + 16 * F} (bit 5 options) pass6 _ (omega arith) (omega arith)
    (λ n q. record { fits = pass6_fits n q.fits; low = low_at (omega arith) (pass6_low n q.fits q.low) })
    (optional_both {N = N} {M = N + 3 * F} {F = F} {B = 10 * F} {C = N + 13 * F} (bit 3 options) pass5 _ (omega arith) (omega arith)
    (λ n q. record { fits = pass5_fits n q.fits; low = low_at (omega arith) (pass5_low n q.fits q.low) })
    (optional_both {N = N} {M = N} {F = F} {B = 7 * F} {C = 10 * F} (bit 4 options) pass4 _ (omega arith) (omega arith)
    (λ n q. record { fits = pass4_fits n q.fits; low = low_at (omega arith) (pass4_low n q.fits.kept.faces q.low) })
    (optional_both {N = N} {M = N} {F = F} {B = 3 * F} {C = 7 * F} (bit 2 options) pass3 _ (omega arith) (omega arith)
    (λ n q. record { fits = pass3_fits n q.fits; low = low_at (omega arith) (pass3_low n q.fits.kept.faces q.low) })
    (optional_both {N = N} {M = N} {F = F} {B = 2 * F} {C = 3 * F} (bit 1 options) pass2 _ (omega arith) (omega arith)
    (λ n q. record { fits = pass2_fits n q.fits; low = low_at (omega arith) (pass2_low n q.fits.kept.faces q.low) })
    (optional_both {N = N} {M = N} {F = F} {B = 0} {C = 2 * F} (bit 0 options) (pass1 s) _ (omega arith) (omega arith)
    (λ n q. record { fits = pass1_fits s n q.fits; low = low_at (omega arith) (pass1_low s n q.fits.kept.faces q.low) }) k)))))

-- no entry of zeros is above 0
zeros_low : (n : ℕ) (j : ℕ) → get_or (replicate n 0) j 0 ≤ 0
zeros_low zero j = omega arith
zeros_low (suc n) zero = omega arith
zeros_low (suc n) (suc j) = zeros_low n j

-- no count of a repair's report is above 2P + 16F
pub repaired_low : (s : Float) (options : ℕ) (ps : List Point) (fs : List Face) → Inside (length ps) fs → Low (2 * length ps + 16 * length fs) (repaired s options ps fs).report
unfolding repaired start
repaired_low s options ps fs h =
    (passes_both (length ps) (length fs) s options (start ps fs)
    (record { fits = record { points = omega arith; kept = record { faces = omega arith; inside = h; report = refl } }; low = record { each = zeros_low report_counts } })).low

-- so each is below 2^32 where the points and the faces are no more than document 01 allows
pub repaired_small : (s : Float) (options : ℕ) (ps : List Point) (fs : List Face) → Inside (length ps) fs → length ps ≤ 4194304 → length fs ≤ 1048576 → (j : ℕ) → get_or (repaired s options ps fs).report j 0 < 2 ^ 32
repaired_small s options ps fs h p f j = omega (arith, (repaired_low s options ps fs h).each j)
