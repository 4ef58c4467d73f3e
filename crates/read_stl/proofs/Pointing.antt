-- The corners in the points room are the rules' corners, and the triples theirs. Assumes nothing.
use mathlib.Core.Path.{◌≡◌, sym, ◌∙◌}
use mathlib.Core.List.{List, map}
use Prim.Native.Nat.{ℕ, ◌+◌, ◌*◌, ◌≤◌, ◌<◌}
use native.Mathlib.Omega.{arith}
use lib.ListN.{length, get_or, take, length-map}
use lib.Seq.{get_or-take, length-take-le, ext_get_or}
use lib.Ieee.{Float, nan}
use Rattle.rules.specs.Mesh.{Point, point, points_of, zero64}
use Rattle.rules.specs.Stl.{facets, coordinate, corner_at, place_of, corners_of, number, triples}
use Rattle.rule_laws.proofs.Flat.{length_points, point_in}
use Rattle.rule_laws.proofs.Lists.{get_or_map_in}
use Rattle.stl_file.proofs.Scanning.{length_corners, corner_is}
use Rattle.read_stl.specs.Rows.{Stands}

-- three coordinates are a corner
corner_of : (file : List ℕ) (i : ℕ) (x y z : Float) → x ≡ coordinate file i → y ≡ coordinate file (i + 4) → z ≡ coordinate file (i + 8) → record { x = x; y = y; z = z } ≡ corner_at file i
unfolding corner_at
corner_of file i x y z a b c = λ t. record { x = a t; y = b t; z = c t }

-- all corners, read back from the room
pub points_are : (file : List ℕ) (n : ℕ) (ps : List Float) → n ≡ 3 * facets file → 3 * n ≤ length ps → ((c : ℕ) → c < n → Stands file ps c) → points_of (take (3 * n) ps) ≡ corners_of file
unfolding point
points_are file n ps many fit s =
    let l = length-take-le (3 * n) ps fit in
    let d : Point = record { x = zero64; y = zero64; z = zero64 } in
    ext_get_or d (points_of (take (3 * n) ps)) (corners_of file) (length_points (take (3 * n) ps) ∙ (omega (arith, l) ∙ sym (length_corners file)))
    (λ c h.
    let q : c < n = omega (arith, length_points (take (3 * n) ps)) in
    point_in (take (3 * n) ps) nan c (omega arith)
    ∙ corner_of file (place_of c) _ _ _
    (get_or-take (3 * n) ps (3 * c) nan (omega arith) ∙ (s c q).x)
    (get_or-take (3 * n) ps (3 * c + 1) nan (omega arith) ∙ (s c q).y)
    (get_or-take (3 * n) ps (3 * c + 2) nan (omega arith) ∙ (s c q).z)
    ∙ sym (corner_is file c d (omega arith)))

-- a row that holds each corner's number is the rules' triples
pub triples_are : (file : List ℕ) (n : ℕ) (fs : List ℕ) → n ≡ 3 * facets file → n ≤ length fs → ((c : ℕ) → c < n → get_or fs c 0 ≡ number (corners_of file) (point (corners_of file) c)) → take n fs ≡ triples (corners_of file)
unfolding triples point
triples_are file n fs many fit s =
    let l = length-take-le n fs fit in
    let m = length_corners file in
    let d : Point = record { x = zero64; y = zero64; z = zero64 } in
    ext_get_or 0 (take n fs) (map (number (corners_of file)) (corners_of file)) (l ∙ (many ∙ (sym m ∙ sym (length-map (corners_of file) (number (corners_of file))))))
    (λ c h.
    let q : c < n = omega arith in
    get_or-take n fs c 0 q ∙ s c q ∙ sym (get_or_map_in (number (corners_of file)) (corners_of file) c d 0 (omega arith)))
