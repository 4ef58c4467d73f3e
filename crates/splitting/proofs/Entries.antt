-- The entries at a point by the numbers of corners, and their groups among all corners. Assumes nothing.
use mathlib.Core.Path.{◌≡◌, refl, sym, ap, ◌∙◌, subst}
use mathlib.Core.Bool.{Bool, true, false, not, ◌&&◌, cond, not-not}
use mathlib.Core.List.{List, [], ◌∷◌, ◌++◌, map, map-map, map-append, append_assoc}
use Prim.Native.Nat.{ℕ, zero, suc, ◌+◌, ◌*◌, ◌/◌, ◌≤◌, ◌<◌}
use native.Mathlib.Omega.{arith}
use native.Mathlib.Numerals.{add-one, add-two}
use borrow.Author.Tests.{eq-eqb}
use lib.ListN.{length, get_or, length-map}
use lib.Seq.{ext_get_or}
use lib.Dec.{T, eqb, eqb→eq, eqb_refl}
use lib.Ieee.Fits.{and_i}
use Rattle.rules.specs.Lists.{below, filter, count, each}
use Rattle.rules.specs.Mesh.{Face, face, corners, flat_faces}
use Rattle.rules.specs.Groups.{leads}
use Rattle.rules.specs.Pass5.{entries_at, share, fans}
use Rattle.rule_laws.proofs.Tests.{both_ways, and_elim}
use Rattle.rule_laws.proofs.Lists.{length_below, filter_append, filter_map, get_or_map_in}
use Rattle.rule_laws.proofs.Rising.{all_at, all_imp, all_filter, below_all, get_or_below, map_same, Up, up_at, stay_up}
use Rattle.rule_laws.proofs.Members.{mem_filter, mem_below, mem_index}
use Rattle.rule_laws.proofs.Counting.{count_map, count_below_agree}
use Rattle.rule_laws.proofs.Flat.{face_at, length_flat_faces, same_face}
use Rattle.rule_laws.proofs.Relabel.{flat_alike}
use Rattle.rule_laws.proofs.Splitting.{share_sym}
use Rattle.rule_laws.proofs.Classes.{Class, leads_same}
use Rattle.rule_laws.proofs.Agreeing.{fans_count}
use Rattle.splitting.specs.Corners.{corner_at, joined_at, corners_at}
use Rattle.splitting.proofs.AllAtOnce.{each_last}

-- a face by the numbers of its corners
pub three_at : (fs : List Face) (k : ℕ) → k < length fs → face fs k ≡ record { a = corner_at fs (3 * k); b = corner_at fs (3 * k + 1); c = corner_at fs (3 * k + 2); origin = (face fs k).origin }
unfolding corner_at
three_at fs k h =
    let s = flat_alike fs in
    let f = face_at (flat_faces fs) k (omega (arith, length_flat_faces fs)) in
    same_face _ _ (sym (s.at_a k) ∙ ap (λ g. g.a) f) (sym (s.at_b k) ∙ ap (λ g. g.b) f) (sym (s.at_c k) ∙ ap (λ g. g.c) f) refl

-- the numbers of one face's corners more
below_three : (k : ℕ) → below (3 * suc k) ≡ below (3 * k) ++ ((3 * k) ∷ (3 * k + 1) ∷ (3 * k + 2) ∷ [])
unfolding below
below_three k =
    let e : 3 * suc k ≡ suc (suc (suc (3 * k))) = omega arith in
    ap below e
    ∙ append_assoc (below (3 * k) ++ ((3 * k) ∷ [])) (suc (3 * k) ∷ []) (suc (suc (3 * k)) ∷ [])
    ∙ append_assoc (below (3 * k)) ((3 * k) ∷ []) (suc (3 * k) ∷ suc (suc (3 * k)) ∷ [])
    ∙ rw (add-one, add-two)

-- a test for equality, turned
eqb_turn : (a b : ℕ) → eqb a b ≡ eqb b a
eqb_turn a b = both_ways (eqb a b) (eqb b a) (λ t. rw (eqb→eq a b t) (eqb_refl b)) (λ t. rw (eqb→eq b a t) (eqb_refl a))

-- the entries of one face
entries_three : (fs : List Face) (v k : ℕ) → k < length fs → map (λ id. id / 3) (filter (λ id. eqb (corner_at fs id) v) ((3 * k) ∷ (3 * k + 1) ∷ (3 * k + 2) ∷ [])) ≡ map (λ x. k) (filter (eqb v) (corners (face fs k)))
entries_three fs v k h =
    map_same (λ id. id / 3) (λ id. k) (filter q l3)
    (all_imp (λ id. (id / 3 ≡ k) × T (q id)) (λ id. id / 3 ≡ k) (λ id w. w.0) (filter q l3) (all_filter (λ id. id / 3 ≡ k) q l3 (omega arith, (omega arith, (omega arith, tt)))))
    ∙ sym (map-map (λ x. k) (corner_at fs) (filter q l3))
    ∙ ap (map (λ x. k)) (sym (filter_map (λ x. eqb x v) (corner_at fs) l3))
    ∙ ap (λ f. map (λ x. k) (filter (λ x. eqb x v) (corners f))) (sym (three_at fs k h))
    ∙ ap (λ p. map (λ x. k) (filter p (corners (face fs k)))) (λ j x. eqb_turn x v j)
  where
    q : ℕ → Bool
    q id = eqb (corner_at fs id) v

    l3 : List ℕ
    l3 = (3 * k) ∷ (3 * k + 1) ∷ (3 * k + 2) ∷ []

-- the entries of the first k faces
entries_first : (fs : List Face) (v k : ℕ) → k ≤ length fs → map (λ id. id / 3) (filter (λ id. eqb (corner_at fs id) v) (below (3 * k))) ≡ each (λ i. map (λ x. i) (filter (eqb v) (corners (face fs i)))) (below k)
entries_first fs v zero h = unfold below each filter in refl
entries_first fs v (suc k) h =
    ap (λ l. map (λ id. id / 3) (filter (λ id. eqb (corner_at fs id) v) l)) (below_three k)
    ∙ ap (map (λ id. id / 3)) (filter_append (λ id. eqb (corner_at fs id) v) (below (3 * k)) ((3 * k) ∷ (3 * k + 1) ∷ (3 * k + 2) ∷ []))
    ∙ map-append (λ id. id / 3) (filter (λ id. eqb (corner_at fs id) v) (below (3 * k))) (filter (λ id. eqb (corner_at fs id) v) ((3 * k) ∷ (3 * k + 1) ∷ (3 * k + 2) ∷ []))
    ∙ rw (entries_first fs v k (omega arith), entries_three fs v k h) (sym (each_last (λ i. map (λ x. i) (filter (eqb v) (corners (face fs i)))) k))

-- the entries at v are the faces of the corners at v
pub entries_corners : (fs : List Face) (v : ℕ) → entries_at fs v ≡ map (λ id. id / 3) (corners_at fs v)
unfolding entries_at corners_at
entries_corners fs v = sym (entries_first fs v (length fs) (omega arith))

-- joined corners are joined the other way
pub joined_turns : (fs : List Face) (x y : ℕ) → T (joined_at fs x y) → T (joined_at fs y x)
unfolding joined_at
joined_turns fs x y t =
    let w = and_elim (eqb (corner_at fs x) (corner_at fs y)) (share (corner_at fs x) (face fs (x / 3)) (face fs (y / 3))) t in
    let e = eqb→eq (corner_at fs x) (corner_at fs y) w.0 in
    and_i (eqb (corner_at fs y) (corner_at fs x)) (share (corner_at fs y) (face fs (y / 3)) (face fs (x / 3)))
    (subst T (eqb_turn (corner_at fs x) (corner_at fs y)) w.0)
    (share_sym (corner_at fs y) (face fs (x / 3)) (face fs (y / 3)) (subst (λ c. T (share c (face fs (x / 3)) (face fs (y / 3)))) e w.1))

-- joined corners are at one point
pub one_point : (fs : List Face) (x y : ℕ) → T (joined_at fs x y) → corner_at fs x ≡ corner_at fs y
unfolding joined_at
one_point fs x y t = eqb→eq (corner_at fs x) (corner_at fs y) (and_elim (eqb (corner_at fs x) (corner_at fs y)) (share (corner_at fs x) (face fs (x / 3)) (face fs (y / 3))) t).0

-- what a filter leaves of 0 .. n - 1 rises
filter_up : (p : ℕ → Bool) (n : ℕ) → Up 0 (filter p (below n))
filter_up p n = subst (λ q. Up 0 (filter q (below n))) (λ j i. not-not (p i) j) (stay_up (λ i. not (p i)) n)

-- what passes one test after the other passes both
filter_both : (p q : ℕ → Bool) (xs : List ℕ) → filter p (filter q xs) ≡ filter (λ x. q x && p x) xs
unfolding filter
filter_both p q [] = refl
filter_both p q (x ∷ xs) = go (q x) (filter_both p q xs)
  where
    go :
        (b : Bool) → filter p (filter q xs) ≡ filter (λ y. q y && p y) xs
        → filter p (cond b (x ∷ filter q xs) (filter q xs)) ≡ cond (b && p x) (x ∷ filter (λ y. q y && p y) xs) (filter (λ y. q y && p y) xs)
    go true e = ap (λ l. cond (p x) (x ∷ l) l) e
    go false e = e

module _ (fs : List Face) (v : ℕ) where
  -- the k-th corner at v
  abbrev pub corner : ℕ → ℕ
  corner k = get_or (corners_at fs v) k 0

  -- the face of the k-th entry at v
  abbrev pub at : ℕ → ℕ
  at k = get_or (entries_at fs v) k 0

  -- two entries are joined, as the rule says
  abbrev pub joined : ℕ → ℕ → Bool
  joined k l = share v (face fs (at k)) (face fs (at l))

  -- there are as many entries as corners
  pub as_many : length (entries_at fs v) ≡ length (corners_at fs v)
  as_many = ap length (entries_corners fs v) ∙ length-map (corners_at fs v) (λ id. id / 3)

  -- the corners at v are corners, and at v
  pub corner_is : (k : ℕ) → k < length (entries_at fs v) → (corner k < 3 * length fs) × (corner_at fs (corner k) ≡ v)
  unfolding corners_at
  corner_is k h =
      let w = all_at (λ id. (id < 3 * length fs) × T (eqb (corner_at fs id) v)) (corners_at fs v) 0 k (all_filter (λ id. id < 3 * length fs) (λ id. eqb (corner_at fs id) v) (below (3 * length fs)) (below_all (3 * length fs))) (omega (arith, as_many)) in
      (w.0, eqb→eq (corner_at fs (corner k)) v w.1)

  -- a corner at v has a place
  pub place_of : (id : ℕ) → id < 3 * length fs → corner_at fs id ≡ v → (k : ℕ) × (k < length (entries_at fs v)) × (id ≡ corner k)
  unfolding corners_at
  place_of id h e =
      let w = mem_index 0 id (corners_at fs v) (mem_filter (λ x. eqb (corner_at fs x) v) id (below (3 * length fs)) (mem_below id (3 * length fs) h) (rw e (eqb_refl v))) in
      (w.0, omega (arith, as_many, w.1), sym w.2)

  -- they rise
  pub corner_rises : (k l : ℕ) → k < l → l < length (entries_at fs v) → corner k < corner l
  unfolding corners_at
  corner_rises k l h b = up_at 0 (corners_at fs v) k l (filter_up (λ id. eqb (corner_at fs id) v) (3 * length fs)) h (omega (arith, as_many))

  -- the entry's face is the corner's
  pub at_is : (k : ℕ) → k < length (entries_at fs v) → at k ≡ corner k / 3
  at_is k h = ap (λ l. get_or l k 0) (entries_corners fs v) ∙ get_or_map_in (λ id. id / 3) (corners_at fs v) k 0 0 (omega (arith, as_many))

  -- two entries are joined exactly if their corners are
  joined_is : (k l : ℕ) → k < length (entries_at fs v) → l < length (entries_at fs v) → joined_at fs (corner k) (corner l) ≡ joined k l
  unfolding joined_at
  joined_is k l hk hl = rw (at_is k hk, at_is l hl, (corner_is k hk).1, (corner_is l hl).1, eq-eqb v v refl)

  -- the entries at v are a class of the corners
  pub class : Class (joined_at fs) (3 * length fs) joined (length (entries_at fs v)) corner
  class =
      record {
        inside = λ k h. (corner_is k h).0;
        rising = corner_rises;
        closed = λ k y h b t. place_of y b (closes k y h t);
        out = λ k l hk hl t. subst T (sym (joined_is k l hk hl)) t;
        into = λ k l hk hl t. subst T (joined_is k l hk hl) t;
      }
    where
      closes : (k y : ℕ) → k < length (entries_at fs v) → T (joined_at fs (corner k) y) → corner_at fs y ≡ v
      closes k y h t = sym (one_point fs (corner k) y t) ∙ (corner_is k h).1

  -- ---- the groups at v, counted among all corners

  -- the corners at v, by their places
  by_place : map corner (below (length (entries_at fs v))) ≡ corners_at fs v
  by_place =
      ext_get_or 0 (map corner (below (length (entries_at fs v)))) (corners_at fs v) (length-map (below (length (entries_at fs v))) corner ∙ length_below (length (entries_at fs v)) ∙ as_many)
      (λ i h.
      let k : i < length (entries_at fs v) = omega (arith, length-map (below (length (entries_at fs v))) corner, length_below (length (entries_at fs v))) in
      get_or_map_in corner (below (length (entries_at fs v))) i 0 0 (omega (arith, length_below (length (entries_at fs v)))) ∙ ap corner (get_or_below (length (entries_at fs v)) i k))

  -- there are as many groups at v as corners at v that stand first in their group among all corners
  pub fans_leaders : length (fans fs v) ≡ count (λ id. eqb (corner_at fs id) v && leads (joined_at fs) (3 * length fs) id) (below (3 * length fs))
  unfolding corners_at count
  fans_leaders =
      fans_count fs v
      ∙ count_below_agree (leads joined (length (entries_at fs v))) (λ k. leads (joined_at fs) (3 * length fs) (corner k)) (length (entries_at fs v)) (leads_same class)
      ∙ sym (count_map (leads (joined_at fs) (3 * length fs)) corner (below (length (entries_at fs v))))
      ∙ ap (count (leads (joined_at fs) (3 * length fs))) by_place
      ∙ ap length (filter_both (leads (joined_at fs) (3 * length fs)) (λ id. eqb (corner_at fs id) v) (below (3 * length fs)))
