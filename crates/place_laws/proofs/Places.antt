-- What a check finds has its place below 2^32, and so have the checks of a call. Assumes nothing.
use mathlib.Core.Path.{◌≡◌, refl}
use mathlib.Core.Bool.{Bool, true, false, not, cond}
use mathlib.Core.List.{List, [], ◌∷◌}
use Prim.Native.Nat.{ℕ, suc, ◌/◌, ◌≤◌, ◌<◌, ◌^◌}
use native.Mathlib.Omega.{arith}
use lib.ListN.{length, get_or}
use lib.Dec.{leb, ltb}
use lib.Ieee.{Float}
use Rattle.rules.specs.Lists.{below, any, all, first}
use Rattle.rules.specs.Mesh.{faces_of, points_of, corners}
use Rattle.rules.specs.Steps.{edges}
use Rattle.rules.specs.Refusal.{no3_threshold, no3_options, Check, ok, no, decided, unless, at_first, no1, no1_counts, no2, no4, no5, no6, most_points, most_faces}
use Rattle.rules.specs.Edges.{no7, no8}
use Rattle.rules.specs.Calls.{repair_rooms, RepairRooms, repair_check, edges_rooms, EdgesRooms, edges_check, loops_rooms, LoopsRooms, loops_check, check_rooms, check_check, line_rooms, line_check}
use Rattle.rule_laws.proofs.Flat.{length_faces, length_points}
use Rattle.rule_laws.proofs.Lists.{length_below}
use Rattle.rule_laws.proofs.Fits.{few_edges}
use Rattle.refuse.proofs.Singles.{no2_fine}

-- what a check finds has its place below 2^32
unfoldable pub Near : Check → Type 0
Near ok = Unit {0}
Near (no n p) = p < 2 ^ 32

-- ---- one check

-- a test reports the place it is given
pub unless_near : (n p : ℕ) (b : Bool) → p < 2 ^ 32 → Near (unless n p b)
unfolding unless Near
unless_near n p true l = tt
unless_near n p false l = l

-- the first that passes is at most at the end
first_at_most : {A : Type 0} (p : A → Bool) (xs : List A) → first p xs ≤ length xs
unfolding first
first_at_most p [] = omega arith
first_at_most p (x ∷ xs) = go (p x) (first_at_most p xs)
  where
    go : (b : Bool) → first p xs ≤ length xs → cond b 0 (suc (first p xs)) ≤ suc (length xs)
    go true l = omega arith
    go false l = omega arith

-- the first at fault of a list that is not too long
pub at_first_near : {A : Type 0} (n : ℕ) (fault : A → Bool) (xs : List A) → length xs < 2 ^ 32 → Near (at_first n fault xs)
unfolding at_first
at_first_near n fault xs l = unless_near n (first fault xs) (all (λ x. not (fault x)) xs) (omega (arith, first_at_most fault xs))

-- 5: at most F
pub no5_near : (P : ℕ) (faces : List ℕ) → length faces / 3 ≤ most_faces → Near (no5 P (faces_of faces))
unfolding no5
no5_near P faces l = at_first_near 5 (λ f. any (leb P) (corners f)) (faces_of faces) (omega (arith, length_faces faces))

-- 6: at most the number of rooms
pub no6_near : (stated given : List ℕ) → length stated < 2 ^ 32 → Near (no6 stated given)
unfolding no6
no6_near stated given l =
    at_first_near 6 (λ k. ltb (get_or given k 0) (get_or stated k 0)) (below (length stated)) (omega (arith, length_below (length stated)))

-- ---- the checks of a call

-- a check decides, or it finds nothing and the next ones decide
pub step : (c : Check) (cs : List Check) → Near c → (c ≡ ok → Near (decided cs)) → Near (decided (c ∷ cs))
unfolding decided
step ok cs h r = r refl
step (no n p) cs h r = h

-- no check is left
pub end : Near (decided [])
unfolding decided Near
end = tt

-- of a repair: 2 comes before 4 and 5, so P and F are not too large
pub repair_near : (points : List Float) (faces : List ℕ) (s : Float) (options : ℕ) (r : RepairRooms) → Near (repair_check points faces s options r)
unfolding repair_check repair_rooms no1 no2 no3_threshold no3_options no4
repair_near points faces s options r =
    let P = length points / 3 in
    let F = length faces / 3 in
    step _ _ (unless_near 1 0 _ (omega arith))
    (λ _. step _ _ (unless_near 1 1 _ (omega arith))
    (λ _. step _ _ (unless_near 2 0 _ (omega arith))
    (λ p. step _ _ (unless_near 2 1 _ (omega arith))
    (λ f. step _ _ (unless_near 3 0 _ (omega arith))
    (λ _. step _ _ (unless_near 3 1 _ (omega arith))
    (λ _. step _ _ (at_first_near 4 _ (points_of points) (omega (arith, no2_fine 0 P most_points p, length_points points)))
    (λ _. step _ _ (no5_near P faces (no2_fine 1 F most_faces f))
    (λ _. step _ _ (no6_near (repair_rooms P F) _ (omega arith))
    (λ _. end)))))))))

-- of what calls check of points and faces before their rooms: 2 comes before 4, 5, 7 and 8, so P and F are not too large
pub input_near :
    (points : List Float) (faces : List ℕ) (rest : List Check) → (length points / 3 ≤ most_points → length faces / 3 ≤ most_faces → Near (decided rest))
    → Near
    (decided
    (no1 0 (length points) ∷ no1 1 (length faces) ∷ no2 0 (length points / 3) most_points ∷ no2 1 (length faces / 3) most_faces
    ∷ no4 (points_of points) ∷ no5 (length points / 3) (faces_of faces) ∷ rest))
unfolding no1 no2 no4
input_near points faces rest h =
    let P = length points / 3 in
    let F = length faces / 3 in
    step _ _ (unless_near 1 0 _ (omega arith))
    (λ _. step _ _ (unless_near 1 1 _ (omega arith))
    (λ _. step _ _ (unless_near 2 0 _ (omega arith))
    (λ p. step _ _ (unless_near 2 1 _ (omega arith))
    (λ f. step _ _ (at_first_near 4 _ (points_of points) (omega (arith, no2_fine 0 P most_points p, length_points points)))
    (λ _. step _ _ (no5_near P faces (no2_fine 1 F most_faces f))
    (λ _. h (no2_fine 0 P most_points p) (no2_fine 1 F most_faces f)))))))

-- 7: no more unique edges than steps of faces
no7_near : (P : ℕ) (faces : List ℕ) → length faces / 3 ≤ most_faces → Near (no7 P (faces_of faces))
unfolding no7
no7_near P faces l = at_first_near 7 _ (edges P (faces_of faces)) (omega (arith, length_faces faces, few_edges P (faces_of faces)))

-- of the edge call
pub edges_near : (points : List Float) (faces : List ℕ) (r : EdgesRooms) → Near (edges_check points faces r)
unfolding edges_check edges_rooms
edges_near points faces r =
    let P = length points / 3 in
    input_near points faces _
    (λ p f. step _ _ (no6_near (edges_rooms P (length faces / 3)) _ (omega arith)) (λ _. step _ _ (no7_near P faces f) (λ _. end)))

-- of the loop call
pub loops_near : (points : List Float) (faces : List ℕ) (r : LoopsRooms) → Near (loops_check points faces r)
unfolding loops_check loops_rooms no8
loops_near points faces r =
    let P = length points / 3 in
    input_near points faces _
    (λ p f. step _ _ (no6_near (loops_rooms P (length faces / 3)) _ (omega arith))
    (λ _. step _ _ (no7_near P faces f) (λ _. step _ _ (at_first_near 8 _ (below P) (omega (arith, length_below P))) (λ _. end))))

-- of the edge check: 2 comes before 5, so F is not too large
pub check_near : (P : ℕ) (faces work : List ℕ) → Near (check_check P faces work)
unfolding check_check check_rooms no1 no2
check_near P faces work =
    let F = length faces / 3 in
    step _ _ (unless_near 1 1 _ (omega arith))
    (λ _. step _ _ (unless_near 2 0 _ (omega arith))
    (λ _. step _ _ (unless_near 2 1 _ (omega arith))
    (λ e. step _ _ (no5_near P faces (no2_fine 1 F most_faces e))
    (λ _. step _ _ (no6_near (check_rooms P F) (length work ∷ []) (omega arith))
    (λ _. end)))))

-- of the report line
pub line_near : (counts line : List ℕ) → Near (line_check counts line)
unfolding line_check line_rooms no1_counts
line_near counts line =
    step _ _ (unless_near 1 2 _ (omega arith))
    (λ _. step _ _ (no6_near line_rooms (length line ∷ []) (omega arith))
    (λ _. end))
