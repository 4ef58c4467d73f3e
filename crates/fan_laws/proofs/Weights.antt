-- What takes a new point: the faces of the group, or, for a corner of a face with three equal corners, that face alone if the corner is its giver.
-- Assumes nothing.
use mathlib.Core.Path.{◌≡◌, refl, sym, ap, ◌∙◌, subst}
use mathlib.Core.Logic.{◌≢◌, ◌⊎◌, inl, inr}
use mathlib.Core.Bool.{Bool, true, false, ◌&&◌, cond}
use mathlib.Core.List.Memᴰ
use mathlib.Core.List.{List, [], ◌∷◌, ◌++◌, map, Memᴰ}
use Prim.Native.Nat.{ℕ, zero, suc, ◌+◌, ◌*◌, ◌/◌, ◌≤◌, ◌<◌}
use native.Mathlib.Omega.{arith}
use native.Mathlib.Decide.{dec_lt, ℕ_discrete}
use borrow.Author.Tests.{eq-eqb, ne_eqb}
use lib.Dec.{T, eqb, not_T}
use lib.Ieee.Bits.{is_true, is_false}
use lib.ListN.{length}
use Rattle.rules.specs.Lists.{below, filter, has}
use Rattle.rules.specs.Mesh.{Face, face, corners}
use Rattle.rules.specs.Groups.{group}
use Rattle.rules.specs.Pass5.{share}
use Rattle.rule_laws.proofs.Tests.{and_elim}
use Rattle.rule_laws.proofs.Lists.{filter_append}
use Rattle.rule_laws.proofs.Members.{mem_has, has_mem, mem_three}
use Rattle.rule_laws.proofs.Groups.{Chain, Chain.stay, Chain.link, group_within, group_chain}
use Rattle.rule_laws.proofs.Leaders.{group_sym}
use Rattle.rule_laws.proofs.Fans.{share_elim}
use Rattle.splitting.specs.Corners.{corner_at, joined_at}
use Rattle.splitting.proofs.Agreeing.{filter_agree, on_below}
use Rattle.splitting.proofs.Entries.{joined_turns}
use Rattle.fan_laws.specs.Sums.{sum_of, field}
use Rattle.fan_laws.specs.Opening.{opens, single, giver, is_in_group, takes, weight}
use Rattle.fan_laws.proofs.Sums.{sum_append}
use Rattle.fan_laws.proofs.Takers.{the_one, number_corner}

-- ---- one number among those below n

-- none before it
sum_none : (g : ℕ → ℕ) (i n : ℕ) (b : Bool) → n ≤ i → sum_of g (filter (λ k. eqb k i && b) (below n)) ≡ 0
unfolding below
sum_none g i zero b h = unfold filter sum_of in refl
sum_none g i (suc n) b h =
    ap (sum_of g) (filter_append (λ k. eqb k i && b) (below n) (n ∷ []))
    ∙ sum_append g (filter (λ k. eqb k i && b) (below n)) (filter (λ k. eqb k i && b) (n ∷ []))
    ∙ ap (λ (t : ℕ). t + sum_of g (filter (λ k. eqb k i && b) (n ∷ []))) (sum_none g i n b (omega arith))
    ∙ unfold filter sum_of in (rw (ne_eqb n i (λ e. absurd (omega arith))))

-- once where it is among them
sum_one : (g : ℕ → ℕ) (i n : ℕ) (b : Bool) → i < n → sum_of g (filter (λ k. eqb k i && b) (below n)) ≡ cond b (g i) 0
unfolding below
sum_one g i zero b h = absurd (omega arith)
sum_one g i (suc n) b h =
    ap (sum_of g) (filter_append (λ k. eqb k i && b) (below n) (n ∷ []))
    ∙ sum_append g (filter (λ k. eqb k i && b) (below n)) (filter (λ k. eqb k i && b) (n ∷ []))
    ∙ go (dec_lt i n) (λ l. sum_one g i n b l)
  where
    own : (b : Bool) → sum_of g (cond b (i ∷ []) []) ≡ cond b (g i) 0
    own true = unfold sum_of in (omega arith)
    own false = unfold sum_of in refl

    go : Dec (i < n) → (i < n → sum_of g (filter (λ k. eqb k i && b) (below n)) ≡ cond b (g i) 0)
        → sum_of g (filter (λ k. eqb k i && b) (below n)) + sum_of g (filter (λ k. eqb k i && b) (n ∷ [])) ≡ cond b (g i) 0
    go (yes l) r = ap (λ (t : ℕ). t + sum_of g (filter (λ k. eqb k i && b) (n ∷ []))) (r l) ∙ unfold filter sum_of in (rw (ne_eqb n i (λ e. absurd (omega arith))) (omega arith))
    go (no l) r =
        let e : n ≡ i = omega arith in
        ap (λ (t : ℕ). t + sum_of g (filter (λ k. eqb k i && b) (n ∷ []))) (sum_none g i n b (omega arith))
        ∙ rw e (unfold filter in (rw (eq-eqb i i refl) (omega (arith, own b))))

module _ (fs : List Face) where
  abbrev all : ℕ
  all = 3 * length fs

  -- all corners of such a face are at the point of one of them
  one_corner : (id x : ℕ) → id < all → T (single (face fs (id / 3))) → Memᴰ x (corners (face fs (id / 3))) → x ≡ corner_at fs id
  one_corner id x h t m = go (face fs (id / 3)) x m (the_one (face fs (id / 3)) t) ∙ sym (go (face fs (id / 3)) (corner_at fs id) (number_corner fs id h) (the_one (face fs (id / 3)) t))
    where
      go : (f : Face) (x : ℕ) → Memᴰ x (corners f) → (f.b ≡ f.a) × (f.c ≡ f.a) → x ≡ f.a
      go f x m o = pick (mem_three m)
        where
          pick : (x ≡ f.a) ⊎ ((x ≡ f.b) ⊎ (x ≡ f.c)) → x ≡ f.a
          pick (inl e) = e
          pick (inr (inl e)) = e ∙ o.0
          pick (inr (inr e)) = e ∙ o.1

  -- a corner of such a face is joined to none
  pub joins_none : (id y : ℕ) → id < all → T (single (face fs (id / 3))) → T (joined_at fs id y) → ⊥
  unfolding joined_at
  joins_none id y h t j =
      let w = share_elim (corner_at fs id) (face fs (id / 3)) (face fs (y / 3)) (and_elim (eqb (corner_at fs id) (corner_at fs y)) (share (corner_at fs id) (face fs (id / 3)) (face fs (y / 3))) j).1 in
      w.1 (one_corner id w.0 h t w.2)

  -- so it is alone in its group
  chain_alone : {id y : ℕ} → id < all → T (single (face fs (id / 3))) → Chain (joined_at fs) all id y → y ≡ id
  chain_alone h t stay = refl
  chain_alone {id} h t (link {j = j} {k = k} c s b) = absurd (joins_none id k h t (subst (λ z. T (joined_at fs z k)) (chain_alone h t c) s))

  -- in the words of groups
  pub group_alone : (id y : ℕ) → id < all → T (single (face fs (id / 3))) → Memᴰ y (group (joined_at fs) all id) → y ≡ id
  group_alone id y h t m = chain_alone h t (group_chain (joined_at fs) all id y m)

  -- a face in the group has a corner there
  pub in_group : (id i : ℕ) → id < all → T (is_in_group fs id i) → (y : ℕ) × (y < all) × (y / 3 ≡ i) × Memᴰ y (group (joined_at fs) all id)
  unfolding is_in_group
  in_group id i h t =
      let w = Memᴰ.of_map (λ y. y / 3) (group (joined_at fs) all id) (has_mem i (map (λ y. y / 3) (group (joined_at fs) all id)) t) in
      (w.0, group_within (joined_at fs) all id w.0 h w.1, w.2, w.1)

  -- and the other way
  pub group_in : (id y : ℕ) → Memᴰ y (group (joined_at fs) all id) → T (is_in_group fs id (y / 3))
  unfolding is_in_group
  group_in id y m = mem_has (y / 3) (map (λ y. y / 3) (group (joined_at fs) all id)) (Memᴰ.map (λ y. y / 3) m)

  -- the giver is a corner of its face
  giver_face : (i : ℕ) → giver fs i / 3 ≡ i
  unfolding giver
  giver_face i = go (opens fs (3 * i))
    where
      go : (b : Bool) → cond b (3 * i) (3 * i + 1) / 3 ≡ i
      go true = omega arith
      go false = omega arith

  -- no giver of another face
  other_giver : (id i : ℕ) → id / 3 ≢ i → eqb id (giver fs i) ≡ false
  other_giver id i n = ne_eqb id (giver fs i) (λ e. n (ap (λ y. y / 3) e ∙ giver_face i))

  -- where the corner's face has different corners, the group's faces take the point, and none of them has three equal corners
  pub takes_group : (id i : ℕ) → id < all → single (face fs (id / 3)) ≡ false → takes fs id i ≡ is_in_group fs id i
  unfolding takes
  takes_group id i h e = go (single (face fs i)) refl
    where
      differs : single (face fs i) ≡ true → id / 3 ≢ i
      differs q r = subst T (sym q ∙ ap (λ k. single (face fs k)) (sym r) ∙ e) tt

      never : single (face fs i) ≡ true → T (is_in_group fs id i) → ⊥
      never q t =
          let w = in_group id i h t in
          let s : T (single (face fs (w.0 / 3))) = subst (λ k. T (single (face fs k))) (sym w.2) (subst T (sym q) tt) in
          let z = group_alone w.0 id w.1 s (group_sym (joined_at fs) all (joined_turns fs) id w.0 h w.3) in
          differs q (ap (λ y. y / 3) z ∙ w.2)

      go : (b : Bool) → single (face fs i) ≡ b → cond b (eqb id (giver fs i)) (is_in_group fs id i) ≡ is_in_group fs id i
      go false q = refl
      go true q = other_giver id i (differs q) ∙ sym (is_false (is_in_group fs id i) (not_T (is_in_group fs id i) (never q)))

  -- where it has three equal ones, it takes the point alone, if the corner is its giver
  pub takes_alone : (id i : ℕ) → id < all → T (single (face fs (id / 3))) → takes fs id i ≡ (eqb i (id / 3) && eqb id (giver fs (id / 3)))
  unfolding takes
  takes_alone id i h t = go (ℕ_discrete (id / 3) i)
    where
      other : id / 3 ≢ i → (b : Bool) → single (face fs i) ≡ b → cond b (eqb id (giver fs i)) (is_in_group fs id i) ≡ false
      other n true q = other_giver id i n
      other n false q =
          is_false (is_in_group fs id i) (not_T (is_in_group fs id i) (λ g. let w = in_group id i h g in n (ap (λ y. y / 3) (sym (group_alone id w.0 h t w.3)) ∙ w.2)))

      go : Dec (id / 3 ≡ i) → cond (single (face fs i)) (eqb id (giver fs i)) (is_in_group fs id i) ≡ (eqb i (id / 3) && eqb id (giver fs (id / 3)))
      go (yes e) = rw (← e, is_true (single (face fs (id / 3))) t, eq-eqb (id / 3) (id / 3) refl)
      go (no n) = other n (single (face fs i)) refl ∙ rw (ne_eqb i (id / 3) (λ e. n (sym e)))

  -- ---- what they weigh

  -- a corner of a face with different corners
  pub weight_group : (id : ℕ) → id < all → single (face fs (id / 3)) ≡ false → weight fs id ≡ 2 + field (corner_at fs id) + sum_of (λ i. field (face fs i).origin) (filter (is_in_group fs id) (below (length fs)))
  unfolding weight
  weight_group id h e =
      ap (λ xs. 2 + field (corner_at fs id) + sum_of (λ i. field (face fs i).origin) xs)
      (filter_agree (takes fs id) (is_in_group fs id) (below (length fs)) (on_below (λ i. takes fs id i ≡ is_in_group fs id i) (length fs) (λ i l. takes_group id i h e)))

  -- a corner of a face with three equal ones
  pub weight_alone : (id : ℕ) → id < all → T (single (face fs (id / 3))) → weight fs id ≡ 2 + field (corner_at fs id) + cond (eqb id (giver fs (id / 3))) (field (face fs (id / 3)).origin) 0
  unfolding weight
  weight_alone id h t =
      ap (λ xs. 2 + field (corner_at fs id) + sum_of (λ i. field (face fs i).origin) xs)
      (filter_agree (takes fs id) (λ i. eqb i (id / 3) && eqb id (giver fs (id / 3))) (below (length fs)) (on_below (λ i. takes fs id i ≡ (eqb i (id / 3) && eqb id (giver fs (id / 3)))) (length fs) (λ i l. takes_alone id i h t)))
      ∙ ap (λ (n : ℕ). 2 + field (corner_at fs id) + n) (sum_one (λ i. field (face fs i).origin) (id / 3) (length fs) (eqb id (giver fs (id / 3))) (omega arith))
