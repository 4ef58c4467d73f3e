-- What stands in the rooms after the pass is the state that the rules' pass 6 makes of what stood there before. Assumes nothing.
use mathlib.Core.Path.{◌≡◌, ap, ◌∙◌}
use mathlib.Core.List.{List, map}
use Prim.Native.Nat.{ℕ, ◌-◌, ◌*◌, ◌<◌}
use native.Mathlib.Omega.{arith}
use lib.Ieee.{Float}
use lib.ListN.{length, take, length-map}
use lib.Seq.{length-take-le}
use Rattle.rules.specs.Lists.{below, count, leave}
use Rattle.rules.specs.Mesh.{face, points_of, faces_of, renamed}
use Rattle.rules.specs.State.{more, isolated}
use Rattle.rules.specs.Pass6.{marked6, number, pass6}
use Rattle.rule_laws.proofs.Flat.{length_points, points_flat, own_flat, numbered}
use Rattle.rule_laws.proofs.Pass6.{face_map}
use Rattle.leaving.specs.Pass.{standing}
use Rattle.drop_isolated_vertices.specs.Unused.{UnusedAsks, UnusedGives}

-- renumbered, each face is still its own origin
renamed_own : (xs : List ℕ) (g : ℕ → ℕ) (i : ℕ) → i < length (map (renamed g) (faces_of xs)) → (face (map (renamed g) (faces_of xs)) i).origin ≡ i
unfolding renamed
renamed_own xs g i h =
    let l : i < length (faces_of xs) = rw (length-map (faces_of xs) (renamed g)) at h in
    ap (λ f. f.origin) (face_map (renamed g) (faces_of xs) i l) ∙ numbered xs i l

-- the points, the faces and the report with P - r more isolated points
pub unused_state :
    {ps : List Float} {P : ℕ} {xs : List ℕ} {n : ℕ} {w : List ℕ} {ps' : List Float} {xs' w' : List ℕ} {r : ℕ} (report : List ℕ)
    → UnusedAsks ps P xs n w → UnusedGives ps P xs n w ps' xs' w' r
    → record { points = points_of (take (3 * r) ps'); faces = standing xs' n; report = more isolated (P - r) report }
    ≡ pass6 (record { points = points_of (take (3 * P) ps); faces = standing xs n; report = report })
unfolding pass6
unused_state {ps} {P} {xs} {n} {w} {ps'} {xs'} {w'} {r} report p g =
    let fs = standing xs n in
    let pts = points_of (take (3 * P) ps) in
    let l : length pts ≡ P = length_points (take (3 * P) ps) ∙ (let e = length-take-le (3 * P) ps p.points_fit in omega arith) in
    let k : P - r ≡ count (marked6 fs) (below (length pts)) = rw l (omega (arith, g.number)) in
    let a = ap points_of g.points ∙ points_flat (leave (marked6 fs) pts) in
    let b = ap faces_of g.faces ∙ own_flat (map (renamed (number fs)) fs) (renamed_own (take (3 * n) xs) (number fs)) in
    λ i. record { points = a i; faces = b i; report = more isolated (k i) report }
