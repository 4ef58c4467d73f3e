-- The flat lists of a call and the lists of points and faces: by place, and there and back. Assumes nothing.
use mathlib.Core.Path.{◌≡◌, refl, sym, ap, ◌∙◌}
use mathlib.Core.List.{List, [], ◌∷◌, ◌++◌, map, append_assoc}
use Prim.Native.Nat.{ℕ, zero, suc, ◌+◌, ◌*◌, ◌/◌, ◌%◌, ◌≤◌, ◌<◌}
use native.Mathlib.Omega.{arith}
use native.Mathlib.Nat.{not-suc-le-zero, zero-add, add-zero}
use lib.ListN.{length, get_or, take}
use lib.Seq.{take-suc, length-take-le}
use native.Mathlib.Numerals.{add-one, add-two}
use lib.Ieee.{Float}
use Rattle.rules.specs.Lists.{each}
use Rattle.rules.specs.Mesh.{Point, Face, corners, coordinates, points_of, faces_from, faces_of, faces_with, flat_points, flat_faces, point, face}
use Rattle.rule_laws.proofs.Lists.{length_each}

-- face i's corners are the numbers at 3i, 3i + 1, 3i + 2, and its origin is its own place
pub face_from :
    (k : ℕ) (xs : List ℕ) (i : ℕ) → 3 * i + 2 < length xs
    → face (faces_from k xs) i ≡ record { a = get_or xs (3 * i) 0; b = get_or xs (3 * i + 1) 0; c = get_or xs (3 * i + 2) 0; origin = k + i }
unfolding face faces_from
face_from k [] i h = absurd (not-suc-le-zero h)
face_from k (a ∷ []) i h = absurd (omega arith)
face_from k (a ∷ b ∷ []) i h = absurd (omega arith)
face_from k (a ∷ b ∷ c ∷ xs) zero h = rw (add-zero k) refl
face_from k (a ∷ b ∷ c ∷ xs) (suc i) h =
    let e : 3 * suc i ≡ suc (suc (suc (3 * i))) = omega arith in
    let e1 : 3 * suc i + 1 ≡ suc (suc (suc (3 * i + 1))) = omega arith in
    let e2 : 3 * suc i + 2 ≡ suc (suc (suc (3 * i + 2))) = omega arith in
    let e3 : k + suc i ≡ suc k + i = omega arith in
    rw (e2, e1, e, e3) (face_from (suc k) xs i (omega arith))

-- in a call's list
pub face_at :
    (xs : List ℕ) (i : ℕ) → 3 * i + 2 < length xs
    → face (faces_of xs) i ≡ record { a = get_or xs (3 * i) 0; b = get_or xs (3 * i + 1) 0; c = get_or xs (3 * i + 2) 0; origin = i }
face_at xs i h = rw (zero-add i) at (face_from 0 xs i h)

-- three numbers make a face
length_from : (k : ℕ) (xs : List ℕ) → length (faces_from k xs) ≡ length xs / 3
unfolding faces_from
length_from k [] = refl
length_from k (a ∷ []) = refl
length_from k (a ∷ b ∷ []) = refl
length_from k (a ∷ b ∷ c ∷ xs) = let h = length_from (suc k) xs in omega arith

pub length_faces : (xs : List ℕ) → length (faces_of xs) ≡ length xs / 3
length_faces xs = length_from 0 xs

-- three numbers a face
pub length_flat_faces : (fs : List Face) → length (flat_faces fs) ≡ 3 * length fs
unfolding flat_faces
length_flat_faces fs = length_each 3 corners (λ f. refl) fs

-- a flat list of whole faces, there and back
flat_from : (k : ℕ) (xs : List ℕ) → length xs % 3 ≡ 0 → flat_faces (faces_from k xs) ≡ xs
unfolding faces_from flat_faces each
flat_from k [] h = refl
flat_from k (a ∷ []) h = absurd (omega arith)
flat_from k (a ∷ b ∷ []) h = absurd (omega arith)
flat_from k (a ∷ b ∷ c ∷ xs) h = ap (λ l. a ∷ b ∷ c ∷ l) (flat_from (suc k) xs (omega arith))

pub flat_faces_back : (xs : List ℕ) → length xs % 3 ≡ 0 → flat_faces (faces_of xs) ≡ xs
flat_faces_back xs h = flat_from 0 xs h

-- three numbers more are a face more
snoc_from : (k : ℕ) (xs : List ℕ) (a b c : ℕ) → length xs % 3 ≡ 0 → faces_from k (xs ++ (a ∷ b ∷ c ∷ [])) ≡ faces_from k xs ++ (record { a = a; b = b; c = c; origin = k + length xs / 3 } ∷ [])
unfolding faces_from
snoc_from k [] a b c h = rw (add-zero k)
snoc_from k (x ∷ []) a b c h = absurd (omega arith)
snoc_from k (x ∷ y ∷ []) a b c h = absurd (omega arith)
snoc_from k (x ∷ y ∷ z ∷ xs) a b c h =
    let e : k + length (x ∷ y ∷ z ∷ xs) / 3 ≡ suc k + length xs / 3 = omega arith in
    rw e (ap (λ l. record { a = x; b = y; c = z; origin = k } ∷ l) (snoc_from (suc k) xs a b c (omega arith)))

pub faces_snoc : (xs : List ℕ) (a b c : ℕ) → length xs % 3 ≡ 0 → faces_of (xs ++ (a ∷ b ∷ c ∷ [])) ≡ faces_of xs ++ (record { a = a; b = b; c = c; origin = length xs / 3 } ∷ [])
faces_snoc xs a b c h = rw (zero-add (length xs / 3)) at (snoc_from 0 xs a b c h)

-- the first i + 1 faces of a flat list are the first i, and face i
pub faces_take :
    (xs : List ℕ) (i : ℕ) → 3 * i + 2 < length xs
    → faces_of (take (3 * suc i) xs)
    ≡ faces_of (take (3 * i) xs) ++ (record { a = get_or xs (3 * i) 0; b = get_or xs (3 * i + 1) 0; c = get_or xs (3 * i + 2) 0; origin = i } ∷ [])
faces_take xs i h =
    let l : length (take (3 * i) xs) / 3 ≡ i = let e = length-take-le (3 * i) xs (omega arith) in omega arith in
    ap faces_of cut ∙ (rw l at (faces_snoc (take (3 * i) xs) (get_or xs (3 * i) 0) (get_or xs (3 * i + 1) 0) (get_or xs (3 * i + 2) 0) (let e = length-take-le (3 * i) xs (omega arith) in omega arith)))
  where
    cut : take (3 * suc i) xs ≡ take (3 * i) xs ++ (get_or xs (3 * i) 0 ∷ get_or xs (3 * i + 1) 0 ∷ get_or xs (3 * i + 2) 0 ∷ [])
    cut =
        let e : 3 * suc i ≡ suc (suc (suc (3 * i))) = omega arith in
        rw (e, take-suc xs (suc (suc (3 * i))) 0 (omega arith), take-suc xs (suc (3 * i)) 0 (omega arith), take-suc xs (3 * i) 0 (omega arith), append_assoc, append_assoc, add-one, add-two)

-- the first i faces are i
pub length_faces_take : (xs : List ℕ) (i : ℕ) → 3 * i ≤ length xs → length (faces_of (take (3 * i) xs)) ≡ i
length_faces_take xs i h = length_faces (take (3 * i) xs) ∙ (let e = length-take-le (3 * i) xs h in omega arith)

-- ---- the same of points; a float list is read with any default d, since the place is inside

-- point i's coordinates are the numbers at 3i, 3i + 1, 3i + 2
pub point_at :
    (xs : List Float) (d : Float) (i : ℕ) → 3 * i + 2 < length xs
    → point (points_of xs) i ≡ record { x = get_or xs (3 * i) d; y = get_or xs (3 * i + 1) d; z = get_or xs (3 * i + 2) d }
unfolding point points_of
point_at [] d i h = absurd (not-suc-le-zero h)
point_at (a ∷ []) d i h = absurd (omega arith)
point_at (a ∷ b ∷ []) d i h = absurd (omega arith)
point_at (a ∷ b ∷ c ∷ xs) d zero h = refl
point_at (a ∷ b ∷ c ∷ xs) d (suc i) h =
    let e : 3 * suc i ≡ suc (suc (suc (3 * i))) = omega arith in
    let e1 : 3 * suc i + 1 ≡ suc (suc (suc (3 * i + 1))) = omega arith in
    let e2 : 3 * suc i + 2 ≡ suc (suc (suc (3 * i + 2))) = omega arith in
    rw (e2, e1, e) (point_at xs d i (omega arith))

-- three numbers make a point
pub length_points : (xs : List Float) → length (points_of xs) ≡ length xs / 3
unfolding points_of
length_points [] = refl
length_points (a ∷ []) = refl
length_points (a ∷ b ∷ []) = refl
length_points (a ∷ b ∷ c ∷ xs) = let h = length_points xs in omega arith

-- three numbers a point
pub length_flat_points : (ps : List Point) → length (flat_points ps) ≡ 3 * length ps
unfolding flat_points
length_flat_points ps = length_each 3 coordinates (λ p. refl) ps

-- flat and back, points are the same
pub points_flat : (ps : List Point) → points_of (flat_points ps) ≡ ps
unfolding points_of flat_points each
points_flat [] = refl
points_flat (p ∷ ps) = ap (λ l. p ∷ l) (points_flat ps)

-- and so is a flat list of whole points, there and back
pub flat_points_back : (xs : List Float) → length xs % 3 ≡ 0 → flat_points (points_of xs) ≡ xs
unfolding points_of flat_points each
flat_points_back [] h = refl
flat_points_back (a ∷ []) h = absurd (omega arith)
flat_points_back (a ∷ b ∷ []) h = absurd (omega arith)
flat_points_back (a ∷ b ∷ c ∷ xs) h = ap (λ l. a ∷ b ∷ c ∷ l) (flat_points_back xs (omega arith))

-- ---- by a number below P or F, where the list may have a rest
-- point i, for i below P
pub point_in :
    (xs : List Float) (d : Float) (i : ℕ) → i < length xs / 3
    → point (points_of xs) i ≡ record { x = get_or xs (3 * i) d; y = get_or xs (3 * i + 1) d; z = get_or xs (3 * i + 2) d }
point_in xs d i h = point_at xs d i (omega arith)

-- face i, for i below F
pub face_in :
    (xs : List ℕ) (i : ℕ) → i < length xs / 3
    → face (faces_of xs) i ≡ record { a = get_or xs (3 * i) 0; b = get_or xs (3 * i + 1) 0; c = get_or xs (3 * i + 2) 0; origin = i }
face_in xs i h = face_at xs i (omega arith)

-- each face of a call's list is its own origin
pub numbered : (xs : List ℕ) (i : ℕ) → i < length (faces_of xs) → (face (faces_of xs) i).origin ≡ i
numbered xs i h = ap (λ f. f.origin) (face_in xs i (omega (arith, length_faces xs)))

-- flat corners and origins together are the faces
pub with_flat : (fs : List Face) → faces_with (flat_faces fs) (map (λ f. f.origin) fs) ≡ fs
unfolding faces_with flat_faces each
with_flat [] = refl
with_flat (f ∷ fs) = ap (λ l. f ∷ l) (with_flat fs)

-- faces whose origins count from k on
own_from : (k : ℕ) (fs : List Face) → ((i : ℕ) → i < length fs → (face fs i).origin ≡ k + i) → faces_from k (flat_faces fs) ≡ fs
unfolding faces_from flat_faces each face
own_from k [] own = refl
own_from k (f ∷ fs) own =
    let e : f.origin ≡ k = own 0 (omega arith) ∙ omega arith in
    let r = own_from (suc k) fs (λ i h. own (suc i) (omega arith) ∙ omega arith) in
    λ i. record { a = f.a; b = f.b; c = f.c; origin = sym e i } ∷ r i

-- faces that are each their own origin are the same, made flat and read again
pub own_flat : (fs : List Face) → ((i : ℕ) → i < length fs → (face fs i).origin ≡ i) → faces_of (flat_faces fs) ≡ fs
own_flat fs own = own_from 0 fs (λ i h. own i h ∙ omega arith)

-- ---- a point and a face by their parts

-- a point has three coordinates and nothing else
pub same_point : (q p : Point) → q.x ≡ p.x → q.y ≡ p.y → q.z ≡ p.z → q ≡ p
same_point q p a b c k = record { x = a k; y = b k; z = c k }

-- a face has three corners, an origin and nothing else
pub same_face : (g f : Face) → g.a ≡ f.a → g.b ≡ f.b → g.c ≡ f.c → g.origin ≡ f.origin → g ≡ f
same_face g f a b c o k = record { a = a k; b = b k; c = c k; origin = o k }
