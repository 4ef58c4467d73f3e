-- Who takes the point that is split off for a corner: the faces with a corner in its group; a face with three equal corners by its first corner that
-- opens a group. Assumes nothing.
use mathlib.Core.Path.{◌≡◌, refl, sym, ap, ◌∙◌, subst}
use mathlib.Core.Logic.{◌≢◌, ◌⊎◌, inl, inr}
use mathlib.Core.Bool.{Bool, true, false, ◌&&◌, ◌||◌, cond}
use mathlib.Core.List.Memᴰ
use mathlib.Core.List.{List, [], ◌∷◌, map, Memᴰ}
use Prim.Native.Nat.{ℕ, ◌+◌, ◌*◌, ◌/◌, ◌%◌, ◌≤◌, ◌<◌}
use native.Mathlib.Omega.{arith}
use native.Mathlib.Decide.{dec_lt, ℕ_discrete}
use borrow.Author.Tests.{eq-eqb, ne_eqb}
use lib.Dec.{T, eqb, eqb→eq, eqb_refl}
use lib.Ieee.Bits.{is_true}
use lib.ListN.{length, get_or}
use Rattle.rules.specs.Lists.{below, any, has, count}
use Rattle.rules.specs.Mesh.{Face, face, corners, renamed}
use Rattle.rules.specs.State.{State}
use Rattle.rules.specs.Groups.{group, leads}
use Rattle.rules.specs.Pass5.{entries_at, pass5}
use Rattle.rule_laws.proofs.Tests.{and_elim, both_ways}
use Rattle.rule_laws.proofs.Members.{mem_has, has_mem, mem_three}
use Rattle.rule_laws.proofs.Groups.{group_within, covered}
use Rattle.rule_laws.proofs.Once.{Inside, face_inside}
use Rattle.rule_laws.proofs.Splitting.{face_map_below}
use Rattle.splitting.specs.Corners.{corner_at, joined_at, corners_at, extra, number_at, base, goal_of}
use Rattle.splitting.proofs.Entries.{three_at, corner, at, joined, as_many, corner_is, at_is, corner_rises, joined_turns}
use Rattle.splitting.proofs.Numbers.{number_new, number_old, leads_extra, alone_leads}
use Rattle.splitting.proofs.Goals.{led, alone, base_least, faces_are}
use Rattle.fan_laws.specs.Opening.{met, opens, opens_at, rank, single, giver, is_in_group, takes}
use Rattle.fan_laws.proofs.Order.{opens_extra, extra_before, base_shift, at_point, open_here, one_rank}

-- ---- a face and its corners

-- a face that has not three equal corners has another one than x
pub another : (f : Face) (x : ℕ) → single f ≡ false → (y : ℕ) × (y ≢ x) × Memᴰ y (corners f)
unfolding single
another f x e = go (ℕ_discrete f.a x) (ℕ_discrete f.b x) (ℕ_discrete f.c x)
  where
    go : Dec (f.a ≡ x) → Dec (f.b ≡ x) → Dec (f.c ≡ x) → (y : ℕ) × (y ≢ x) × Memᴰ y (corners f)
    go (no n) b c = (f.a, n, Memᴰ.head refl)
    go (yes p) (no n) c = (f.b, n, Memᴰ.tail (Memᴰ.head refl))
    go (yes p) (yes q) (no n) = (f.c, n, Memᴰ.tail (Memᴰ.tail (Memᴰ.head refl)))
    go (yes p) (yes q) (yes r) =
        absurd (subst T (sym (ap (λ (b : Bool). b && eqb f.b f.c) (eq-eqb f.a f.b (p ∙ sym q)) ∙ eq-eqb f.b f.c (q ∙ sym r)) ∙ e) tt)

-- a face with three equal corners has no other
pub the_one : (f : Face) → T (single f) → (f.b ≡ f.a) × (f.c ≡ f.a)
unfolding single
the_one f t =
    let w = and_elim (eqb f.a f.b) (eqb f.b f.c) t in
    let p = eqb→eq f.a f.b w.0 in
    (sym p, sym (eqb→eq f.b f.c w.1) ∙ sym p)

module _ (fs : List Face) where
  abbrev all : ℕ
  all = 3 * length fs

  -- a corner of a face by its number
  pub corner_number : (i x : ℕ) → i < length fs → Memᴰ x (corners (face fs i)) → (y : ℕ) × (y < all) × (y / 3 ≡ i) × (corner_at fs y ≡ x)
  corner_number i x h m = go (mem_three m)
    where
      go : (x ≡ (face fs i).a) ⊎ ((x ≡ (face fs i).b) ⊎ (x ≡ (face fs i).c)) → (y : ℕ) × (y < all) × (y / 3 ≡ i) × (corner_at fs y ≡ x)
      go (inl e) = (3 * i, omega arith, omega arith, sym (e ∙ ap (λ f. f.a) (three_at fs i h)))
      go (inr (inl e)) = (3 * i + 1, omega arith, omega arith, sym (e ∙ ap (λ f. f.b) (three_at fs i h)))
      go (inr (inr e)) = (3 * i + 2, omega arith, omega arith, sym (e ∙ ap (λ f. f.c) (three_at fs i h)))

  -- the corner with a number is one of its face
  pub number_corner : (y : ℕ) → y < all → Memᴰ (corner_at fs y) (corners (face fs (y / 3)))
  number_corner y h = go (ℕ_discrete (y % 3) 0) (ℕ_discrete (y % 3) 1)
    where
      i : ℕ
      i = y / 3

      inside : i < length fs
      inside = omega arith

      go : Dec (y % 3 ≡ 0) → Dec (y % 3 ≡ 1) → Memᴰ (corner_at fs y) (corners (face fs i))
      go (yes e) d = let q : y ≡ 3 * i = omega arith in Memᴰ.head (ap (corner_at fs) q ∙ sym (ap (λ f. f.a) (three_at fs i inside)))
      go (no n) (yes e) = let q : y ≡ 3 * i + 1 = omega arith in Memᴰ.tail (Memᴰ.head (ap (corner_at fs) q ∙ sym (ap (λ f. f.b) (three_at fs i inside))))
      go (no n) (no k) = let q : y ≡ 3 * i + 2 = omega arith in Memᴰ.tail (Memᴰ.tail (Memᴰ.head (ap (corner_at fs) q ∙ sym (ap (λ f. f.c) (three_at fs i inside)))))

  -- the number of the group that the l-th corner at v opens
  number_rank : (P v l : ℕ) → l < length (corners_at fs v) → T (extra fs v l) → number_at fs v (base fs P v) l ≡ P + rank fs (corner fs v l)
  unfolding rank
  number_rank P v l h t =
      number_new fs v (base fs P v) l t
      ∙ (rw (corner_is fs v l (omega (arith, as_many fs v))).1 (omega (arith, base_shift fs P v, extra_before fs v l h t)))

  -- an extra corner opens a group
  extra_opens : (v l : ℕ) → l < length (corners_at fs v) → T (extra fs v l) → T (opens fs (corner fs v l))
  extra_opens v l h t = (at_point fs v (corner fs v l) (subst T (sym (opens_extra fs v l h)) t)).1

  -- and the other way
  opens_is : (v l : ℕ) → l < length (corners_at fs v) → T (opens fs (corner fs v l)) → T (extra fs v l)
  opens_is v l h t = subst T (opens_extra fs v l h) (subst (λ u. T (opens_at fs u (corner fs v l))) (corner_is fs v l (omega (arith, as_many fs v))).1 (open_here fs (corner fs v l) t))

  -- a corner that opens a group leads it
  pub opens_leads : (id : ℕ) → T (opens fs id) → T (leads (joined_at fs) all id)
  unfolding opens
  opens_leads id t = (and_elim (met fs (corner_at fs id) id) (leads (joined_at fs) all id) t).1

  module _ (P : ℕ) (inside : Inside P fs) where
    -- a corner is below P
    pub corner_low : (y : ℕ) → y < all → corner_at fs y < P
    corner_low y h = go (face fs (y / 3)) (mem_three (number_corner y h)) (face_inside P fs inside (y / 3) (omega arith))
      where
        go : (f : Face) {x : ℕ} → (x ≡ f.a) ⊎ ((x ≡ f.b) ⊎ (x ≡ f.c)) → (f.a < P) × (f.b < P) × (f.c < P) → x < P
        go f (inl e) w = rw e w.0
        go f (inr (inl e)) w = rw e w.1
        go f (inr (inr e)) w = rw e w.2

    module _ (id i : ℕ) (hid : id < all) (open-id : T (opens fs id)) (hi : i < length fs) where
      -- the numbers of its corners after the pass
      abbrev after : List ℕ
      after = map (goal_of fs P i) (corners (face fs i))

      -- ---- a face with different corners
      module _ (e : single (face fs i) ≡ false) where
        -- one with the new point is in the group
        in_it : T (has (P + rank fs id) after) → T (is_in_group fs id i)
        unfolding is_in_group
        in_it t =
            let w = Memᴰ.of_map (goal_of fs P i) (corners (face fs i)) (has_mem (P + rank fs id) after t) in
            let n = corner_number i w.0 hi w.1 in
            let y = n.0 in
            let c = covered (joined_at fs) all (joined_turns fs) y n.1 in
            let o = another (face fs i) (corner_at fs y) e in
            let r = led fs P y c.0 o.0 n.1 c.1 c.2 c.3 o.1 (subst (λ k. Memᴰ o.0 (corners (face fs k))) (sym n.2) o.2) in
            let g : number_at fs (corner_at fs y) (base fs P (corner_at fs y)) r.0 ≡ P + rank fs id = sym r.3 ∙ ap (λ k. goal_of fs P k (corner_at fs y)) n.2 ∙ ap (goal_of fs P i) n.3 ∙ w.2 in
            let s = same (corner_at fs y) r.0 (corner_low y n.1) r.1 g (extra fs (corner_at fs y) r.0) refl in
            mem_has i (map (λ y. y / 3) (group (joined_at fs) all id)) (subst (λ k. Memᴰ k (map (λ y. y / 3) (group (joined_at fs) all id))) n.2
            (Memᴰ.map (λ y. y / 3) (subst (λ L. Memᴰ y (group (joined_at fs) all L)) (r.2 ∙ s) c.3)))
          where
            same : (v l : ℕ) → v < P → l < length (corners_at fs v) → number_at fs v (base fs P v) l ≡ P + rank fs id → (b : Bool) → extra fs v l ≡ b → corner fs v l ≡ id
            same v l hv h g true q =
                let t : T (extra fs v l) = subst T (sym q) tt in
                one_rank fs (corner fs v l) id (corner_is fs v l (omega (arith, as_many fs v))).0 hid (extra_opens v l h t) open-id (omega (arith, number_rank P v l h t))
            same v l hv h g false q = absurd (omega (arith, number_old fs v (base fs P v) l q))

        -- and one in the group has it
        has_it : T (is_in_group fs id i) → T (has (P + rank fs id) after)
        unfolding is_in_group
        has_it t =
            let w = Memᴰ.of_map (λ y. y / 3) (group (joined_at fs) all id) (has_mem i (map (λ y. y / 3) (group (joined_at fs) all id)) t) in
            let y = w.0 in
            let hy = group_within (joined_at fs) all id y hid w.1 in
            let o = another (face fs i) (corner_at fs y) e in
            let r = led fs P y id o.0 hy hid (opens_leads id open-id) w.1 o.1 (subst (λ k. Memᴰ o.0 (corners (face fs k))) (sym w.2) o.2) in
            let x = opens_is (corner_at fs y) r.0 r.1 (subst (λ L. T (opens fs L)) r.2 open-id) in
            let g : goal_of fs P i (corner_at fs y) ≡ P + rank fs id =
            ap (λ k. goal_of fs P k (corner_at fs y)) (sym w.2) ∙ r.3 ∙ number_rank P (corner_at fs y) r.0 r.1 x ∙ ap (λ L. P + rank fs L) (sym r.2) in
            mem_has (P + rank fs id) after (subst (λ z. Memᴰ z after) g (Memᴰ.map (goal_of fs P i) (subst (λ k. Memᴰ (corner_at fs y) (corners (face fs k))) w.2 (number_corner y hy))))

    -- ---- a face with three equal corners

    -- it has the number of its giver, which opens a group
    pub goal_single :
        (i : ℕ) → i < length fs → T (single (face fs i))
        → (goal_of fs P i (face fs i).a ≡ P + rank fs (giver fs i)) × (giver fs i < all) × T (opens fs (giver fs i))
    unfolding giver
    goal_single i hi t =
        let o = the_one (face fs i) t in
        let v = (face fs i).a in
        let q = three_at fs i hi in
        let a0 : corner_at fs (3 * i) ≡ v = sym (ap (λ f. f.a) q) in
        let a1 : corner_at fs (3 * i + 1) ≡ v = sym (ap (λ f. f.b) q) ∙ o.0 in
        let r = alone fs P i v hi (face_inside P fs inside i hi).0 a0 a1 only in
        go r.0 r.1 r.2 r.3 r.4 r.5 r.6 (extra fs v r.0) refl
      where
        w : ℕ
        w = (face fs i).a

        only : (x : ℕ) → Memᴰ x (corners (face fs i)) → x ≡ w
        only x m = pick (mem_three m) (the_one (face fs i) t)
          where
            pick : {x : ℕ} → (x ≡ (face fs i).a) ⊎ ((x ≡ (face fs i).b) ⊎ (x ≡ (face fs i).c)) → ((face fs i).b ≡ w) × ((face fs i).c ≡ w) → x ≡ w
            pick (inl e) o = e
            pick (inr (inl e)) o = e ∙ o.0
            pick (inr (inr e)) o = e ∙ o.1

        low : w < P
        low = (face_inside P fs inside i hi).0

        go : (j k : ℕ) → j < length (corners_at fs w) → k < length (corners_at fs w) → 3 * i ≡ get_or (corners_at fs w) j 0 → 3 * i + 1 ≡ get_or (corners_at fs w) k 0
            → goal_of fs P i w ≡ cond (eqb (number_at fs w (base fs P w) j) w) (number_at fs w (base fs P w) k) (number_at fs w (base fs P w) j)
            → (b : Bool) → extra fs w j ≡ b
            → (goal_of fs P i w ≡ P + rank fs (cond (opens fs (3 * i)) (3 * i) (3 * i + 1))) × (cond (opens fs (3 * i)) (3 * i) (3 * i + 1) < all) × T (opens fs (cond (opens fs (3 * i)) (3 * i) (3 * i + 1)))
        go j k hj hk ej ek g true x =
            let tx : T (extra fs w j) = subst T (sym x) tt in
            let o : T (opens fs (3 * i)) = subst (λ y. T (opens fs y)) (sym ej) (extra_opens w j hj tx) in
            let n : number_at fs w (base fs P w) j ≡ P + rank fs (3 * i) = number_rank P w j hj tx ∙ ap (λ y. P + rank fs y) (sym ej) in
            rw (is_true (opens fs (3 * i)) o)
            (g ∙ ap (λ (b : Bool). cond b (number_at fs w (base fs P w) k) (number_at fs w (base fs P w) j)) (ne_eqb (number_at fs w (base fs P w) j) w (λ z. absurd (omega (arith, n, low)))) ∙ n, omega arith, o)
        go j k hj hk ej ek g false x =
            let p : 0 < k = past (dec_lt 0 k) in
            let xk : T (extra fs w k) =
            leads_extra fs w k (omega (arith, as_many fs w)) p
            (alone_leads fs w (base fs P w) i only k (omega (arith, as_many fs w)) (at_is fs w k (omega (arith, as_many fs w)) ∙ (let s : get_or (corners_at fs w) k 0 / 3 ≡ i = omega (arith, ek) in s))) in
            let o : T (opens fs (3 * i + 1)) = subst (λ y. T (opens fs y)) (sym ek) (extra_opens w k hk xk) in
            rw (closed_first) (
              g ∙ ap (λ (b : Bool). cond b (number_at fs w (base fs P w) k) (number_at fs w (base fs P w) j)) (eq-eqb (number_at fs w (base fs P w) j) w (number_old fs w (base fs P w) j x))
                  ∙ number_rank P w k hk xk ∙ ap (λ y. P + rank fs y) (sym ek),
              omega arith,
              o,
            )
          where
            closed_first : opens fs (3 * i) ≡ false
            closed_first = shut (opens fs (3 * i)) refl
              where
                shut : (b : Bool) → opens fs (3 * i) ≡ b → opens fs (3 * i) ≡ false
                shut false q = q
                shut true q = absurd (subst T (ap (extra fs w) refl ∙ x) (opens_is w j hj (subst (λ y. T (opens fs y)) ej (subst T (sym q) tt))))

            past : Dec (0 < k) → 0 < k
            past (yes q) = q
            past (no q) = absurd (before (dec_lt 0 j))
              where
                before : Dec (0 < j) → ⊥
                before (yes l) = let z : k ≡ 0 = omega arith in let r = corner_rises fs w 0 j l (omega (arith, as_many fs w)) in omega (arith, ap (corner fs w) z)
                before (no l) = let s : j ≡ k = omega arith in omega (arith, ap (corner fs w) s)

    -- face i has the point that is split off for corner id, when the pass is done, exactly if it takes it
    pub takes_it :
        (id i : ℕ) → id < all → T (opens fs id) → i < length fs → has (P + rank fs id) (map (goal_of fs P i) (corners (face fs i))) ≡ takes fs id i
    unfolding takes
    takes_it id i hid t hi = go (single (face fs i)) refl
      where
        p : ℕ
        p = P + rank fs id

        three : (a b c : ℕ) → b ≡ a → c ≡ a → has p (goal_of fs P i a ∷ goal_of fs P i b ∷ goal_of fs P i c ∷ []) ≡ eqb p (goal_of fs P i a)
        three a b c eb ec = rw (eb, ec) (unfold has any in (thrice (eqb p (goal_of fs P i a))))
          where
            thrice : (q : Bool) → (q || (q || (q || false))) ≡ q
            thrice true = refl
            thrice false = refl

        by_giver : (g : ℕ) → g < all → T (opens fs g) → eqb p (P + rank fs g) ≡ eqb id g
        by_giver g hg tg =
            both_ways (eqb p (P + rank fs g)) (eqb id g)
            (λ q. let e = eqb→eq p (P + rank fs g) q in rw (one_rank fs id g hid hg t tg (omega arith)) (eqb_refl g))
            (λ q. rw (eqb→eq id g q) (eqb_refl (P + rank fs g)))

        go : (b : Bool) → single (face fs i) ≡ b → has p (map (goal_of fs P i) (corners (face fs i))) ≡ cond b (eqb id (giver fs i)) (is_in_group fs id i)
        go false e = both_ways (has p (map (goal_of fs P i) (corners (face fs i)))) (is_in_group fs id i) (in_it id i hid t hi e) (has_it id i hid t hi e)
        go true e =
            let s : T (single (face fs i)) = subst T (sym e) tt in
            let o = the_one (face fs i) s in
            let g = goal_single i hi s in
            three (face fs i).a (face fs i).b (face fs i).c o.0 o.1 ∙ ap (eqb p) g.0 ∙ by_giver (giver fs i) g.1 g.2
