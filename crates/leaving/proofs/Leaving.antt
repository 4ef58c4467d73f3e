-- Rows kept by flags, in the words of the rules: where the flags say what leaves, the rows at the front are the faces, or the points, that `leave` leaves.
-- Assumes nothing.
use mathlib.Core.Path.{◌≡◌, refl, sym, ap, ap₂, ◌∙◌}
use mathlib.Core.Bool.{Bool, true, false, not, cond}
use mathlib.Core.List.{List, [], ◌∷◌, ◌++◌, map}
use Prim.Native.Nat.{ℕ, zero, suc, ◌+◌, ◌*◌, ◌≤◌, ◌<◌}
use native.Mathlib.Numerals.{add-one, add-two}
use native.Mathlib.Omega.{arith}
use lib.Dec.{eqb}
use lib.ListN.{length, get_or, take, length-map}
use lib.Seq.{drop-cons, get_or-take, length-take-le}
use lib.Ieee.{Float, nan}
use Rattle.rows.specs.Region.{part}
use Rattle.rows.specs.Filter.{keep}
use Rattle.rows.specs.Retain.{up_to, rows_of, kept_of, RetainGives, OnesGive}
use Rattle.rows.proofs.FilterLaws as rows-laws
use Rattle.rows.proofs.FilterLaws.{All, all_filter, all_append}
use Rattle.rules.specs.Lists.{below, filter, count, each, leave}
use Rattle.rules.specs.Mesh.{points_of, faces_of, flat_points, flat_faces, coordinates, corners, point, face, zero64}
use Rattle.rule_laws.proofs.Lists.{filter_append, stay_at, leave_places, leave_length, length_below}
use Rattle.rule_laws.proofs.Flat.{face_at, point_at, length_faces_take, length_points}
use Rattle.leaving.specs.Pass.{Flagged}

-- a flag is 0 where the mark is not set
flag_zero : (b : Bool) (v : ℕ) → v ≡ cond b 1 0 → eqb v 0 ≡ not b
flag_zero true v e = rw e refl
flag_zero false v e = rw e refl

-- the two ways to write a list of at most one are the same
keep_cond : (b : Bool) (i : ℕ) → keep b i [] ≡ cond b (i ∷ []) []
keep_cond true i = refl
keep_cond false i = refl

-- one place more stays, or does not
stay_last : (marked : ℕ → Bool) (k : ℕ) → stay_at marked (suc k) ≡ stay_at marked k ++ cond (not (marked k)) (k ∷ []) []
unfolding filter below
stay_last marked k = filter_append (λ i. not (marked i)) (below k) (k ∷ [])

-- the kept numbers are those of the places that stay
pub kept_places : {w : List ℕ} {flags n : ℕ} (marked : ℕ → Bool) → Flagged w flags n marked → (k : ℕ) → k ≤ n → kept_of w flags k ≡ stay_at marked k
kept_places marked f zero h = unfold filter below in refl
kept_places {w} {flags} marked f (suc k) h =
    rows-laws.filter_append (λ i. eqb (get_or w (flags + i) 0) 0) (up_to k) (k ∷ [])
    ∙ cc (kept_places marked f k (omega arith), keep_cond (eqb (get_or w (flags + k) 0) 0) k, flag_zero (marked k) (get_or w (flags + k) 0) (f.each k h))
    ∙ sym (stay_last marked k)

-- the kept numbers are below n
kept_below : (w : List ℕ) (flags n : ℕ) → All (λ i. i < n) (kept_of w flags n)
kept_below w flags n = all_filter (λ i. i < n) (λ i. eqb (get_or w (flags + i) 0) 0) (up_to n) (go n (omega arith))
  where
    go : (k : ℕ) → k ≤ n → All (λ i. i < n) (up_to k)
    go zero h = tt
    go (suc k) h = all_append (λ i. i < n) (up_to k) (k ∷ []) (go k (omega arith)) (h, tt)

-- how many are kept before place k: what `number_kept` writes
pub kept_count : {w : List ℕ} {flags n : ℕ} (marked : ℕ → Bool) → Flagged w flags n marked → (k : ℕ) → k ≤ n → length (kept_of w flags k) ≡ count (λ i. not (marked i)) (below k)
unfolding count
kept_count marked f k h = ap length (kept_places marked f k h)

-- those that stay and those that leave are all
stay_count : (marked : ℕ → Bool) (n : ℕ) → length (stay_at marked n) + count marked (below n) ≡ n
stay_count marked n =
    let l = length_below n in
    let s = ap length (leave_places marked (below n) 0) ∙ length-map (stay_at marked (length (below n))) (λ i. get_or (below n) i 0) in
    rw (s, l) at (leave_length marked (below n))

-- those that are kept and those that leave are all
pub left_count :
    {A : Type 0} {d : A} {xs : List A} {w : List ℕ} {flags n : ℕ} {xs' : List A} {r : ℕ} (marked : ℕ → Bool)
    → Flagged w flags n marked → RetainGives d xs w flags n xs' r
    → r + count marked (below n) ≡ n
left_count {n = n} marked f g = omega (arith, ap length (kept_places marked f n (omega arith)), stay_count marked n)

-- the three entries of a row
row_at : {A : Type 0} (d : A) (xs : List A) (i : ℕ) → 3 * i + 2 < length xs → part xs (3 * i) 3 ≡ get_or xs (3 * i) d ∷ get_or xs (3 * i + 1) d ∷ get_or xs (3 * i + 2) d ∷ []
row_at d xs i h = rw (drop-cons xs (3 * i) d (omega arith), drop-cons xs (suc (3 * i)) d (omega arith), drop-cons xs (suc (suc (3 * i))) d (omega arith), add-one, add-two)

-- rows are what f makes of the elements g, where it is so of each
rows_each : {A B : Type 0} (xs : List A) (f : B → List A) (g : ℕ → B) (n : ℕ) → ((i : ℕ) → i < n → part xs (3 * i) 3 ≡ f (g i)) → (is : List ℕ) → All (λ i. i < n) is → rows_of xs is ≡ each f (map g is)
unfolding each
rows_each xs f g n e [] a = refl
rows_each xs f g n e (i ∷ is) a = cc (e i a.0, rows_each xs f g n e is a.1)

-- ---- faces

-- row i is the corners of face i
face_row : (xs : List ℕ) (n : ℕ) → 3 * n ≤ length xs → (i : ℕ) → i < n → part xs (3 * i) 3 ≡ corners (face (faces_of (take (3 * n) xs)) i)
face_row xs n fit i h =
    let l = length-take-le (3 * n) xs fit in
    row_at 0 xs i (omega arith)
    ∙ sym (ap corners (face_at (take (3 * n) xs) i (omega arith)) ∙ rw (get_or-take (3 * n) xs (3 * i) 0 (omega arith), get_or-take (3 * n) xs (3 * i + 1) 0 (omega arith), get_or-take (3 * n) xs (3 * i + 2) 0 (omega arith)))

-- the faces at the front are those that stay
pub faces_left :
    {xs w : List ℕ} {flags n : ℕ} {xs' : List ℕ} {r : ℕ} (marked : ℕ → Bool)
    → 3 * n ≤ length xs → Flagged w flags n marked → RetainGives 0 xs w flags n xs' r
    → take (3 * r) xs' ≡ flat_faces (leave marked (faces_of (take (3 * n) xs)))
unfolding flat_faces face
faces_left {xs} {w} {flags} {n} marked fit f g =
    let fs = faces_of (take (3 * n) xs) in
    g.rows
    ∙ rows_each xs corners (face fs) n (face_row xs n fit) (kept_of w flags n) (kept_below w flags n)
    ∙ ap (λ is. each corners (map (face fs) is)) (kept_places marked f n (omega arith))
    ∙ sym (ap (each corners) (leave_places marked fs (record { a = 0; b = 0; c = 0; origin = 0 }) ∙ ap (λ k. map (face fs) (stay_at marked k)) (length_faces_take xs n fit)))

-- ---- origins

-- the front of n entries has the same ones below n
ones_front : (os : List ℕ) (n : ℕ) (is : List ℕ) → All (λ i. i < n) is → map (λ i. get_or os i 0) is ≡ map (λ i. get_or (take n os) i 0) is
ones_front os n [] a = refl
ones_front os n (i ∷ is) a = ap₂ (λ x l. x ∷ l) (sym (get_or-take n os i 0 a.0)) (ones_front os n is a.1)

-- the origins at the front are those of the faces that stay
pub origins_left :
    {os w : List ℕ} {flags n : ℕ} {os' : List ℕ} {r : ℕ} (marked : ℕ → Bool) → n ≤ length os → Flagged w flags n marked → OnesGive os w flags n os' r
    → take r os' ≡ leave marked (take n os)
origins_left {os} {w} {flags} {n} marked fit f g =
    g.ones ∙ ones_front os n (kept_of w flags n) (kept_below w flags n)
    ∙ ap (map (λ i. get_or (take n os) i 0)) (kept_places marked f n (omega arith))
    ∙ sym (leave_places marked (take n os) 0 ∙ ap (λ k. map (λ i. get_or (take n os) i 0) (stay_at marked k)) (length-take-le n os fit))

-- ---- points

-- row i is the coordinates of point i
pub point_row : (xs : List Float) (n : ℕ) → 3 * n ≤ length xs → (i : ℕ) → i < n → part xs (3 * i) 3 ≡ coordinates (point (points_of (take (3 * n) xs)) i)
point_row xs n fit i h =
    let l = length-take-le (3 * n) xs fit in
    row_at nan xs i (omega arith)
    ∙ sym (ap coordinates (point_at (take (3 * n) xs) nan i (omega arith)) ∙ rw (get_or-take (3 * n) xs (3 * i) nan (omega arith), get_or-take (3 * n) xs (3 * i + 1) nan (omega arith), get_or-take (3 * n) xs (3 * i + 2) nan (omega arith)))

-- the front of 3n numbers has n points
pub length_points_take : (xs : List Float) (n : ℕ) → 3 * n ≤ length xs → length (points_of (take (3 * n) xs)) ≡ n
length_points_take xs n h = length_points (take (3 * n) xs) ∙ (let e = length-take-le (3 * n) xs h in omega arith)

-- the points at the front are those that stay
pub points_left :
    {xs : List Float} {w : List ℕ} {flags n : ℕ} {xs' : List Float} {r : ℕ} (marked : ℕ → Bool)
    → 3 * n ≤ length xs → Flagged w flags n marked → RetainGives nan xs w flags n xs' r
    → take (3 * r) xs' ≡ flat_points (leave marked (points_of (take (3 * n) xs)))
unfolding flat_points point
points_left {xs} {w} {flags} {n} marked fit f g =
    let ps = points_of (take (3 * n) xs) in
    g.rows
    ∙ rows_each xs coordinates (point ps) n (point_row xs n fit) (kept_of w flags n) (kept_below w flags n)
    ∙ ap (λ is. each coordinates (map (point ps) is)) (kept_places marked f n (omega arith))
    ∙ sym (ap (each coordinates) (leave_places marked ps (record { x = zero64; y = zero64; z = zero64 }) ∙ ap (λ k. map (point ps) (stay_at marked k)) (length_points_take xs n fit)))
