-- The corners that open a group, in the order of the new points: the r-th of them has the rank r. Assumes nothing.
use mathlib.Core.Path.{◌≡◌, refl, sym, ap, ap₂, ◌∙◌, subst}
use mathlib.Core.Bool.{Bool, true, false, ◌&&◌, cond}
use mathlib.Core.List.{List, [], ◌∷◌, ◌++◌, map, map-append, map-map, Memᴰ}
use Prim.Native.Nat.{ℕ, zero, suc, ◌+◌, ◌*◌, ◌≤◌, ◌<◌}
use native.Mathlib.Omega.{arith}
use native.Mathlib.Decide.{dec_lt}
use borrow.Author.Tests.{eq-eqb, lt-ltb, le-ltb}
use lib.Dec.{T, eqb, ltb, eqb→eq, eqb_refl, ltb→lt, not_T}
use lib.Ieee.Fits.{and_i}
use lib.Ieee.Bits.{is_true}
use lib.ListN.{length, get_or, replicate, length-map}
use Rattle.rules.specs.Lists.{below, filter, count, any, each}
use Rattle.rules.specs.Mesh.{Face}
use Rattle.rules.specs.Groups.{leads}
use Rattle.rules.specs.Pass5.{entries_at}
use Rattle.rule_laws.proofs.Tests.{and_elim, both_ways}
use Rattle.rule_laws.proofs.Lists.{filter_map, map_each, each_same, get_or_map_in, length_below}
use Rattle.rule_laws.proofs.Rising.{All, all_imp, all_filter, below_all, map_same, get_or_below}
use Rattle.rule_laws.proofs.Members.{any_intro, any_mem, mem_below, below_mem, mem_index, mem_left, mem_each_of}
use Rattle.rule_laws.proofs.Counting.{count_mono, count_strict, count_injective}
use Rattle.splitting.specs.Corners.{corner_at, joined_at, corners_at, extra, extras, base}
use Rattle.splitting.proofs.Agreeing.{filter_agree, on_below}
use Rattle.splitting.proofs.AllAtOnce.{each_last}
use Rattle.splitting.proofs.Entries.{corner, as_many, corner_is, place_of, corner_rises}
use Rattle.split_laws.specs.Olds.{olds_to, old_of}
use Rattle.fan_laws.specs.Opening.{met, opens, opens_at, openers, rank}
use Rattle.fan_laws.proofs.Filtered.{below_add, by_place, map_one, places_line, length_count, place_there, there_place}

-- what passes one test after the other passes both
filter_both : (p q : ℕ → Bool) (xs : List ℕ) → filter p (filter q xs) ≡ filter (λ x. q x && p x) xs
unfolding filter
filter_both p q [] = refl
filter_both p q (x ∷ xs) = go (q x) (filter_both p q xs)
  where
    go :
        (b : Bool) → filter p (filter q xs) ≡ filter (λ y. q y && p y) xs
        → filter p (cond b (x ∷ filter q xs) (filter q xs)) ≡ cond (b && p x) (x ∷ filter (λ y. q y && p y) xs) (filter (λ y. q y && p y) xs)
    go true e = ap (λ l. cond (p x) (x ∷ l) l) e
    go false e = e

module _ (fs : List Face) where
  -- how many corners there are
  abbrev all : ℕ
  all = 3 * length fs

  module _ (v : ℕ) where
    -- how many are at v
    abbrev many : ℕ
    many = length (corners_at fs v)

    -- one at v stands before the j-th exactly if that is not the first
    met_place : (j : ℕ) → j < many → met fs v (corner fs v j) ≡ ltb 0 j
    unfolding met
    met_place j h = both_ways (met fs v (corner fs v j)) (ltb 0 j) to from
      where
        to : T (met fs v (corner fs v j)) → T (ltb 0 j)
        to t =
            let w = any_mem (λ y. eqb (corner_at fs y) v) (below (corner fs v j)) t in
            let b = below_mem w.0 (corner fs v j) w.1 in
            let p = place_of fs v w.0 (omega (arith, (corner_is fs v j (omega (arith, as_many fs v))).0)) (eqb→eq (corner_at fs w.0) v w.2) in
            go p.0 p.1 p.2 b (dec_lt 0 j)
          where
            go : (k : ℕ) {y : ℕ} → k < length (entries_at fs v) → y ≡ corner fs v k → y < corner fs v j → Dec (0 < j) → T (ltb 0 j)
            go k hk e l (yes q) = rw (lt-ltb 0 j q) tt
            go k hk e l (no q) = absurd (late k hk e l (dec_lt j k))
              where
                late : (k : ℕ) {y : ℕ} → k < length (entries_at fs v) → y ≡ corner fs v k → y < corner fs v j → Dec (j < k) → ⊥
                late k hk e l (yes a) = let r = corner_rises fs v j k a hk in omega arith
                late k hk e l (no a) = let z : k ≡ j = omega arith in omega (arith, ap (corner fs v) z)

        from : T (ltb 0 j) → T (met fs v (corner fs v j))
        from t =
            let l = ltb→lt 0 j t in
            any_intro (λ y. eqb (corner_at fs y) v) (corner fs v 0) (below (corner fs v j))
            (mem_below (corner fs v 0) (corner fs v j) (corner_rises fs v 0 j l (omega (arith, as_many fs v))))
            (rw (corner_is fs v 0 (omega (arith, as_many fs v))).1 (eqb_refl v))

    -- the j-th corner at v opens a group there exactly if it is extra
    pub opens_extra : (j : ℕ) → j < many → opens_at fs v (corner fs v j) ≡ extra fs v j
    unfolding opens_at opens extra
    opens_extra j h = rw ((corner_is fs v j (omega (arith, as_many fs v))).1, eq-eqb v v refl, met_place j h)

    -- the corners that open a group at v, by their places
    pub opening_at : filter (opens_at fs v) (below all) ≡ map (corner fs v) (filter (extra fs v) (below many))
    opening_at =
        twice
        ∙ ap (filter (opens_at fs v)) (sym (by_place (corners_at fs v)))
        ∙ filter_map (opens_at fs v) (corner fs v) (below many)
        ∙ ap (map (corner fs v)) (filter_agree (λ j. opens_at fs v (corner fs v j)) (extra fs v) (below many) (on_below (λ j. opens_at fs v (corner fs v j) ≡ extra fs v j) many opens_extra))
      where
        again : (b c : Bool) → (b && c) ≡ (b && (b && c))
        again true c = refl
        again false c = refl

        twice : filter (opens_at fs v) (below all) ≡ filter (opens_at fs v) (corners_at fs v)
        twice = unfold corners_at opens_at in
            (ap (λ (p : ℕ → Bool). filter p (below all)) (λ i y. again (eqb (corner_at fs y) v) (opens fs y) i)
            ∙ sym (filter_both (opens_at fs v) (λ y. eqb (corner_at fs y) v) (below all)))

    -- as many as are split off
    pub extras_open : extras fs v ≡ count (opens_at fs v) (below all)
    unfolding extras count
    extras_open = sym (ap length opening_at ∙ length-map (filter (extra fs v) (below many)) (corner fs v))

    -- as many extra corners stand before the l-th at v as open a group there
    pub extra_before : (l : ℕ) → l < many → T (extra fs v l) → count (extra fs v) (below l) ≡ count (opens_at fs v) (below (corner fs v l))
    extra_before l h t =
        let r = count (extra fs v) (below l) in
        let s : r < count (extra fs v) (below many) = count_strict (extra fs v) l many h t in
        let e : get_or (filter (opens_at fs v) (below all)) r 0 ≡ corner fs v l =
        ap (λ xs. get_or xs r 0) opening_at
        ∙ get_or_map_in (corner fs v) (filter (extra fs v) (below many)) r 0 0 (omega (arith, length_count (extra fs v) many))
        ∙ ap (corner fs v) (there_place (extra fs v) many l h t) in
        let u : r < extras fs v = unfold extras in s in
        sym (ap (λ y. count (opens_at fs v) (below y)) (sym e) ∙ place_there (opens_at fs v) all r (omega (arith, extras_open, u)))

  -- the points before come first
  pub base_shift : (P v : ℕ) → base fs P v ≡ P + base fs 0 v
  unfolding base
  base_shift P zero = omega arith
  base_shift P (suc v) = omega (arith, base_shift P v)

  -- they only become more
  pub base_mono : (u v : ℕ) → u ≤ v → base fs 0 u ≤ base fs 0 v
  unfolding base
  base_mono u zero h = let e : u ≡ 0 = omega arith in rw e (omega arith)
  base_mono u (suc v) h = go (dec_lt v u) (λ l. base_mono u v l)
    where
      go : Dec (v < u) → (u ≤ v → base fs 0 u ≤ base fs 0 v) → base fs 0 u ≤ base fs 0 v + extras fs v
      go (yes l) i = let e : u ≡ suc v = omega arith in rw e (unfold base in (omega arith))
      go (no l) i = omega (arith, i (omega arith))

  -- the corners that open a group at one point more
  openers_next : (v : ℕ) → openers fs (suc v) ≡ openers fs v ++ filter (opens_at fs v) (below all)
  unfolding openers
  openers_next v = each_last (λ u. filter (opens_at fs u) (below all)) v

  -- a corner that opens a group at v is there
  pub at_point : (v id : ℕ) → T (opens_at fs v id) → (corner_at fs id ≡ v) × T (opens fs id)
  unfolding opens_at
  at_point v id t = let w = and_elim (eqb (corner_at fs id) v) (opens fs id) t in (eqb→eq (corner_at fs id) v w.0, w.1)

  -- and the other way
  pub open_here : (id : ℕ) → T (opens fs id) → T (opens_at fs (corner_at fs id) id)
  unfolding opens_at
  open_here id t = and_i (eqb (corner_at fs id) (corner_at fs id)) (opens fs id) (eqb_refl (corner_at fs id)) t

  -- each of them
  opening_all : (v : ℕ) → All (λ id. corner_at fs id ≡ v) (filter (opens_at fs v) (below all))
  opening_all v =
      all_imp (λ (id : ℕ). (id < all) × T (opens_at fs v id)) (λ id. corner_at fs id ≡ v) (λ id w. (at_point v id w.1).0) (filter (opens_at fs v) (below all))
      (all_filter (λ id. id < all) (opens_at fs v) (below all) (below_all all))

  -- their ranks are 0, 1, .. in line
  pub ranks_line : (P : ℕ) → map (rank fs) (openers fs P) ≡ below (base fs 0 P)
  ranks_line zero = unfold openers below each base in refl
  ranks_line (suc v) =
      ap (map (rank fs)) (openers_next v)
      ∙ map-append (rank fs) (openers fs v) (filter (opens_at fs v) (below all))
      ∙ ap₂ (λ xs ys. xs ++ ys) (ranks_line v) here
      ∙ sym (below_add (base fs 0 v) (extras fs v))
      ∙ unfold base in refl
    where
      one : (id : ℕ) → corner_at fs id ≡ v → rank fs id ≡ base fs 0 v + count (opens_at fs v) (below id)
      one id e = unfold rank in (ap (λ u. base fs 0 u + count (opens_at fs u) (below id)) e)

      here : map (rank fs) (filter (opens_at fs v) (below all)) ≡ map (λ r. base fs 0 v + r) (below (extras fs v))
      here =
          map_same (rank fs) (λ id. base fs 0 v + count (opens_at fs v) (below id)) (filter (opens_at fs v) (below all))
          (all_imp (λ id. corner_at fs id ≡ v) (λ id. rank fs id ≡ base fs 0 v + count (opens_at fs v) (below id)) one (filter (opens_at fs v) (below all)) (opening_all v))
          ∙ sym (map-map (λ r. base fs 0 v + r) (λ id. count (opens_at fs v) (below id)) (filter (opens_at fs v) (below all)))
          ∙ ap (map (λ r. base fs 0 v + r)) (places_line (opens_at fs v) all ∙ ap below (sym (extras_open v)))

  -- the old points are theirs
  pub olds_open : (P : ℕ) → olds_to fs P ≡ map (corner_at fs) (openers fs P)
  unfolding olds_to openers
  olds_open P = each_same (λ v. replicate (extras fs v) v) (λ v. map (corner_at fs) (filter (opens_at fs v) (below all))) one (below P) ∙ sym (map_each (corner_at fs) (λ v. filter (opens_at fs v) (below all)) (below P))
    where
      one : (v : ℕ) → replicate (extras fs v) v ≡ map (corner_at fs) (filter (opens_at fs v) (below all))
      one v =
          ap (λ n. replicate n v) (extras_open v ∙ sym (length_count (opens_at fs v) all))
          ∙ sym (map_one v (filter (opens_at fs v) (below all)))
          ∙ sym (map_same (corner_at fs) (λ id. v) (filter (opens_at fs v) (below all)) (opening_all v))

  -- which corners they are
  pub opener_is : (P id : ℕ) → Memᴰ id (openers fs P) → (id < all) × (corner_at fs id < P) × T (opens fs id)
  unfolding openers
  opener_is P id m =
      let w = mem_each_of (λ v. filter (opens_at fs v) (below all)) id (below P) m in
      let q = mem_left (opens_at fs w.0) id (below all) w.2 in
      let a = at_point w.0 id q.1 in
      (below_mem id all q.0, rw a.0 (below_mem w.0 P w.1), a.1)

  -- the old point of the one with rank r
  pub old_rank : (P id : ℕ) → Memᴰ id (openers fs P) → old_of fs P (rank fs id) ≡ corner_at fs id
  unfolding old_of
  old_rank P id m =
      let w = mem_index 0 id (openers fs P) m in
      let k = w.0 in
      let l : k < length (openers fs P) = w.1 in
      let r : rank fs id ≡ k =
      ap (rank fs) (sym w.2) ∙ sym (get_or_map_in (rank fs) (openers fs P) k 0 0 l) ∙ ap (λ xs. get_or xs k 0) (ranks_line P)
      ∙ get_or_below (base fs 0 P) k (omega (arith, ap length (ranks_line P), length-map (openers fs P) (rank fs), length_below (base fs 0 P))) in
      ap₂ (λ (xs : List ℕ) (j : ℕ). get_or xs j 0) (olds_open P) r ∙ get_or_map_in (corner_at fs) (openers fs P) k 0 0 l ∙ ap (corner_at fs) w.2

  -- the rank is below the first of the next point
  pub rank_below : (id : ℕ) → id < all → T (opens fs id) → rank fs id < base fs 0 (suc (corner_at fs id))
  unfolding rank base
  rank_below id h t = omega (arith, count_strict (opens_at fs (corner_at fs id)) id all h (open_here id t), extras_open (corner_at fs id))

  -- two corners of one rank are one
  pub one_rank : (x y : ℕ) → x < all → y < all → T (opens fs x) → T (opens fs y) → rank fs x ≡ rank fs y → x ≡ y
  unfolding rank
  one_rank x y hx hy tx ty e = go (dec_lt (corner_at fs x) (corner_at fs y)) (dec_lt (corner_at fs y) (corner_at fs x))
    where
      least : (id : ℕ) → base fs 0 (corner_at fs id) ≤ rank fs id
      least id = omega arith

      by_rank : rank fs x ≡ rank fs y → base fs 0 (corner_at fs x) + count (opens_at fs (corner_at fs x)) (below x) ≡ base fs 0 (corner_at fs y) + count (opens_at fs (corner_at fs y)) (below y)
      by_rank e = e

      go : Dec (corner_at fs x < corner_at fs y) → Dec (corner_at fs y < corner_at fs x) → x ≡ y
      go (yes l) b = absurd (omega (arith, rank_below x hx tx, base_mono (suc (corner_at fs x)) (corner_at fs y) l, least y))
      go (no a) (yes l) = absurd (omega (arith, rank_below y hy ty, base_mono (suc (corner_at fs y)) (corner_at fs x) l, least x))
      go (no a) (no b) =
          let p : corner_at fs x ≡ corner_at fs y = omega arith in
          let q : base fs 0 (corner_at fs y) + count (opens_at fs (corner_at fs y)) (below x) ≡ base fs 0 (corner_at fs y) + count (opens_at fs (corner_at fs y)) (below y) =
          sym (ap (λ u. base fs 0 u + count (opens_at fs u) (below x)) p) ∙ by_rank e in
          count_injective (opens_at fs (corner_at fs y)) x y (subst (λ u. T (opens_at fs u x)) p (open_here x tx)) (open_here y ty) (omega (arith, q))
