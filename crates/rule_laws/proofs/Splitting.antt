-- What pass 5 makes of the faces at a vertex, in one formula; faces that share an edge at the vertex stay together. Assumes nothing.
use mathlib.Core.Path.{◌≡◌, refl, sym, ap, ◌∙◌, subst}
use mathlib.Core.Logic.{◌≢◌}
use mathlib.Core.Bool.{Bool, true, false, not, ◌&&◌, cond}
use mathlib.Core.List.Memᴰ
use mathlib.Core.List.{List, [], ◌∷◌, ◌++◌, map}
use Prim.Native.Nat.{ℕ, suc, ◌<◌}
use native.Mathlib.Omega.{arith}
use borrow.Author.Tests.{ne_eqb, eqb-true}
use lib.ListN.{length, get_or, length-map, length-append, drop}
use lib.Seq.{ext_get_or}
use lib.Dec.{ltb, T, eqb, eqb_refl}
use lib.Ieee.Fits.{and_i}
use Rattle.rules.specs.Lists.{below, filter, through, has}
use Rattle.rules.specs.Mesh.{Face, point, face, corners, renamed}
use Rattle.rules.specs.State.{State, counted, vertices_split}
use Rattle.rules.specs.Pass5.{split, entries_at, share, fans, split_off}
use Rattle.rules.specs.Groups.{group, leads, groups}
use Rattle.rule_laws.proofs.Tests.{and_elim, both_ways}
use Rattle.rule_laws.proofs.Lists.{length_below, get_or_map_in}
use Rattle.rule_laws.proofs.Rising.{All, all_imp, all_filter, below_all, get_or_below, all_map, map_same}
use Rattle.rule_laws.proofs.Members.{any_intro, any_mem, has_mem, mem_below, mem_each, mem_filter, mem_has, mem_index}
use Rattle.rule_laws.proofs.Groups.{group_closed}

-- v becomes t, all else stays
abbrev pub instead : ℕ → ℕ → ℕ → ℕ
instead v t x = cond (eqb x v) t x

-- the number that face i has for v: that of the copy for the first group that it is in, or v where it is in none
unfoldable pub target : ℕ → ℕ → List (List ℕ) → ℕ → ℕ
target v P [] i = v
target v P (g ∷ gs) i = cond (has i g) P (target v (suc P) gs i)

-- v to v changes nothing
instead_self : (v x : ℕ) → instead v v x ≡ x
instead_self v x = go (eqb x v) refl
  where
    go : (b : Bool) → eqb x v ≡ b → cond b v x ≡ x
    go true e = sym (eqb-true x v e)
    go false e = refl

-- once v is gone, no further change finds it
instead_twice : (v t u x : ℕ) → t ≢ v → instead v u (instead v t x) ≡ instead v t x
instead_twice v t u x ne = go (eqb x v) refl
  where
    go : (b : Bool) → eqb x v ≡ b → cond (eqb (cond b t x) v) u (cond b t x) ≡ cond b t x
    go true e = rw (ne_eqb t v ne)
    go false e = rw e

-- so v to v leaves a face as it is
renamed_self : (v : ℕ) (f : Face) → renamed (instead v v) f ≡ f
unfolding renamed
renamed_self v f = λ i. record { a = instead_self v f.a i; b = instead_self v f.b i; c = instead_self v f.c i; origin = f.origin }

-- a face whose v is gone is not changed again
renamed_twice : (v t u : ℕ) (f : Face) → t ≢ v → renamed (instead v u) (renamed (instead v t) f) ≡ renamed (instead v t) f
unfolding renamed
renamed_twice v t u f ne =
    λ i. record { a = instead_twice v t u f.a ne i; b = instead_twice v t u f.b ne i; c = instead_twice v t u f.c ne i; origin = f.origin }

-- formulas that agree below n make the same row
pub map_below : (f g : ℕ → Face) (n : ℕ) → ((i : ℕ) → i < n → f i ≡ g i) → map f (below n) ≡ map g (below n)
map_below f g n h = map_same f g (below n) (all_imp (λ i. i < n) (λ i. f i ≡ g i) h (below n) (below_all n))

-- a row made by a formula, read at a place
pub face_map_below : (f : ℕ → Face) (n i : ℕ) → i < n → face (map f (below n)) i ≡ f i
unfolding face
face_map_below f n i h = get_or_map_in f (below n) i 0 _ (rw (length_below n) h) ∙ ap f (get_or_below n i h)

-- it has n entries
pub length_map_below : (f : ℕ → Face) (n : ℕ) → length (map f (below n)) ≡ n
length_map_below f n = length-map (below n) f ∙ length_below n

-- a row by its own places
pub faces_by_place : (fs : List Face) → fs ≡ map (face fs) (below (length fs))
unfolding face
faces_by_place fs =
    ext_get_or (record { a = 0; b = 0; c = 0; origin = 0 }) fs (map (face fs) (below (length fs))) (sym (length_map_below (face fs) (length fs)))
    (λ i h. sym (face_map_below (face fs) (length fs) i h))

-- the faces after one group is split off
one_off : ℕ → State → List ℕ → ℕ → Face
one_off v m g i = cond (has i g) (renamed (instead v (length m.points)) (face m.faces i)) (face m.faces i)

-- the faces after the groups gs have been split off, in one formula
pub split_faces :
    (v : ℕ) (gs : List (List ℕ)) (m : State) → v < length m.points
    → (through (split_off v) m gs).faces
    ≡ map (λ i. renamed (instead v (target v (length m.points) gs i)) (face m.faces i)) (below (length m.faces))
unfolding through target split_off one_off
split_faces v [] m h =
    faces_by_place m.faces
    ∙ map_below (face m.faces) (λ i. renamed (instead v v) (face m.faces i)) (length m.faces) (λ i l. sym (renamed_self v (face m.faces i)))
split_faces v (g ∷ gs) m h =
    split_faces v gs (split_off v m g) (rw more_points (omega arith))
    ∙ rw (more_points, length_map_below (one_off v m g) (length m.faces))
    (map_below
    (λ i. renamed (instead v (target v (suc (length m.points)) gs i)) (face (map (one_off v m g) (below (length m.faces))) i))
    (λ i. renamed (instead v (cond (has i g) (length m.points) (target v (suc (length m.points)) gs i))) (face m.faces i))
    (length m.faces) both)
  where
    more_points : length (m.points ++ (point m.points v ∷ [])) ≡ suc (length m.points)
    more_points = length-append m.points (point m.points v ∷ []) ∙ omega arith

    pick : (b : Bool) (t : ℕ) (f : Face)
        → renamed (instead v t) (cond b (renamed (instead v (length m.points)) f) f) ≡ renamed (instead v (cond b (length m.points) t)) f
    pick true t f = renamed_twice v (length m.points) t f (λ e. absurd (omega arith))
    pick false t f = refl

    both : (i : ℕ) → i < length m.faces
        → renamed (instead v (target v (suc (length m.points)) gs i)) (face (map (one_off v m g) (below (length m.faces))) i)
        ≡ renamed (instead v (cond (has i g) (length m.points) (target v (suc (length m.points)) gs i))) (face m.faces i)
    both i l =
        ap (renamed (instead v (target v (suc (length m.points)) gs i))) (face_map_below (one_off v m g) (length m.faces) i l)
        ∙ pick (has i g) (target v (suc (length m.points)) gs i) (face m.faces i)

-- the faces after the split at v
pub split_is :
    (m : State) (v : ℕ) → v < length m.points
    → (split m v).faces
    ≡ map (λ i. renamed (instead v (target v (length m.points) (drop 1 (fans m.faces v)) i)) (face m.faces i)) (below (length m.faces))
unfolding split counted
split_is m v h = split_faces v (drop 1 (fans m.faces v)) (counted vertices_split (cond (ltb 1 (length (fans m.faces v))) 1 0) m) h

-- ---- faces that share an edge at v are in the same groups

-- a face at v has an entry
pub entry_of :
    (fs : List Face) (v i : ℕ) → i < length fs → T (has v (corners (face fs i)))
    → (k : ℕ) × (k < length (entries_at fs v)) × (get_or (entries_at fs v) k 0 ≡ i)
unfolding entries_at
entry_of fs v i h t =
    mem_index 0 i (entries_at fs v)
    (mem_each (λ j. map (λ x. j) (filter (eqb v) (corners (face fs j)))) i i (below (length fs)) (mem_below i (length fs) h)
    (Memᴰ.map (λ x. i) (mem_filter (eqb v) v (corners (face fs i)) (has_mem v (corners (face fs i)) t) (eqb_refl v))))

-- sharing an edge at v goes both ways
pub share_sym : (v : ℕ) (f g : Face) → T (share v f g) → T (share v g f)
unfolding share
share_sym v f g t =
    let w = any_mem (λ x. not (eqb x v) && has x (corners g)) (corners f) t in
    let b = and_elim (not (eqb w.0 v)) (has w.0 (corners g)) w.2 in
    any_intro (λ x. not (eqb x v) && has x (corners f)) w.0 (corners g) (has_mem w.0 (corners g) b.1)
    (and_i (not (eqb w.0 v)) (has w.0 (corners f)) b.0 (mem_has w.0 (corners f) w.1))

-- with a face, a group has every face at v that shares an edge with it there
abbrev pub Together : List Face → ℕ → List ℕ → Type 0
Together fs v g =
    (i j : ℕ) → j < length fs → T (has v (corners (face fs j))) → T (share v (face fs i) (face fs j)) → T (has i g) → T (has j g)

-- the fans at v are such groups
pub fans_together : (fs : List Face) (v : ℕ) → All (Together fs v) (fans fs v)
unfolding fans groups
fans_together fs v =
    all_map (Together fs v) (map at) (map (group joined n) (filter (leads joined n) (below n)))
    (all_map (λ g. Together fs v (map at g)) (group joined n) (filter (leads joined n) (below n))
    (all_imp (λ l. (l < n) × T (leads joined n l)) (λ l. Together fs v (map at (group joined n l)))
    (λ l h. closed l h.0) (filter (leads joined n) (below n)) (all_filter (λ l. l < n) (leads joined n) (below n) (below_all n))))
  where
    at : ℕ → ℕ
    at k = get_or (entries_at fs v) k 0

    n : ℕ
    n = length (entries_at fs v)

    joined : ℕ → ℕ → Bool
    joined k l = share v (face fs (get_or (entries_at fs v) k 0)) (face fs (get_or (entries_at fs v) l 0))

    closed : (l : ℕ) → l < n → Together fs v (map at (group joined n l))
    closed l hl i j hj vj s hi =
        let w = Memᴰ.of_map at (group joined n l) (has_mem i (map at (group joined n l)) hi) in
        let e = entry_of fs v j hj vj in
        let q : T (joined w.0 e.0) = rw (w.2, e.2) s in
        subst (λ y. T (has y (map at (group joined n l)))) e.2
        (mem_has (at e.0) (map at (group joined n l)) (Memᴰ.map at (group_closed joined n l w.0 e.0 hl e.1 w.1 q)))

-- so they take the same number
pub same_target :
    (fs : List Face) (v P i j : ℕ) → i < length fs → j < length fs → T (has v (corners (face fs i))) → T (has v (corners (face fs j)))
    → T (share v (face fs i) (face fs j)) → (gs : List (List ℕ)) → All (Together fs v) gs → target v P gs i ≡ target v P gs j
unfolding target
same_target fs v P i j hi hj vi vj s [] t = refl
same_target fs v P i j hi hj vi vj s (g ∷ gs) t =
    rw (both_ways (has i g) (has j g) (t.0 i j hj vj s) (t.0 j i hi vi (share_sym v (face fs i) (face fs j) s)), same_target fs v (suc P) i j hi hj vi vj s gs t.1)
