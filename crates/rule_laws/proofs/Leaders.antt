-- The groups of 0 .. n - 1 under a joining that goes both ways: who leads, and at the end what a reader looks for: a group is exactly what a chain
-- reaches, each thing is in exactly one group, and its label is the number of leaders before its own. Assumes nothing.
use mathlib.Core.Path.{◌≡◌, sym, ap, ◌∙◌, subst}
use mathlib.Core.Logic.{◌↔◌}
use mathlib.Core.Bool.{Bool, false}
use mathlib.Core.List.{List, [], ◌∷◌, ◌++◌, map, map-append, Memᴰ}
use Prim.Native.Nat.{ℕ, ◌≤◌, ◌<◌}
use native.Mathlib.Omega.{arith}
use lib.ListN.{length, length-map}
use lib.Dec.{T, leb, leb→le, le→leb, not_T}
use lib.Ieee.Bits.{is_false}
use Rattle.rules.specs.Lists.{below, filter, count, first, has}
use Rattle.rules.specs.Groups.{group, groups, leads}
use Rattle.rule_laws.proofs.Lists.{filter_append, filter_cons}
use Rattle.rule_laws.proofs.Rising.{All, all_imp, all_filter, all_map, below_all, below_at}
use Rattle.rule_laws.proofs.Members.{in_all, all_in, all_elim, all_intro, mem_has, has_mem}
use Rattle.rule_laws.proofs.Counting.{count_one, count_append, count_zero, count_strict, count_injective}
use Rattle.rule_laws.proofs.Firsts.{first_after}
use Rattle.rule_laws.proofs.Groups.{Chain, group_within, group_chain, chain_group, chain_flip, chain_join, covered}

-- the number of a thing's group: the place, among the groups, of the one that has it
unfoldable pub label_of : (ℕ → ℕ → Bool) → ℕ → ℕ → ℕ
label_of joined n i = first (has i) (groups joined n)

-- ---- leaders

module _ (joined : ℕ → ℕ → Bool) (n : ℕ) where
  -- a leader stands before all of its group
  pub leads_le : (l y : ℕ) → T (leads joined n l) → Memᴰ y (group joined n l) → l ≤ y
  unfolding leads
  leads_le l y t m = leb→le l y (all_in (λ z. T (leb l z)) y (group joined n l) (all_elim (leb l) (group joined n l) t) m)

  -- one that stands before all of its group leads it
  pub leads_of : (l : ℕ) → ((y : ℕ) → Memᴰ y (group joined n l) → l ≤ y) → T (leads joined n l)
  unfolding leads
  leads_of l h = all_intro (leb l) (group joined n l) (in_all (λ z. T (leb l z)) (group joined n l) (λ y m. le→leb l y (h y m)))

  -- there are as many groups as leaders
  pub groups_length : length (groups joined n) ≡ count (leads joined n) (below n)
  unfolding groups count
  groups_length = length-map (filter (leads joined n) (below n)) (group joined n)

module _ (joined : ℕ → ℕ → Bool) (n : ℕ) (turns : (k l : ℕ) → T (joined k l) → T (joined l k)) where
  -- if j is in the group of i, i is in that of j
  pub group_sym : (i j : ℕ) → i < n → Memᴰ j (group joined n i) → Memᴰ i (group joined n j)
  group_sym i j h m = chain_group joined n (group_within joined n i j h m) (chain_flip joined n turns h (group_chain joined n i j m))

  -- what is in the group of one of the group is in the group
  pub group_trans : (i j k : ℕ) → i < n → Memᴰ j (group joined n i) → Memᴰ k (group joined n j) → Memᴰ k (group joined n i)
  group_trans i j k h a b = chain_group joined n h (chain_join (group_chain joined n i j a) (group_chain joined n j k b))

  -- of two groups with a thing in common, each has the other's beginning
  pub group_meet : (i j x : ℕ) → i < n → j < n → Memᴰ x (group joined n i) → Memᴰ x (group joined n j) → Memᴰ j (group joined n i)
  group_meet i j x hi hj a b = group_trans i x j hi a (group_sym j x hj b)

  -- two leaders of one thing are one
  pub one_leader :
      (l s x : ℕ) → l < n → s < n → T (leads joined n l) → T (leads joined n s)
      → Memᴰ x (group joined n l) → Memᴰ x (group joined n s) → l ≡ s
  one_leader l s x hl hs tl ts a b =
      omega (arith, leads_le joined n l s tl (group_meet l s x hl hs a b), leads_le joined n s l ts (group_meet s l x hs hl b a))

  -- one that is in an earlier one's group does not lead
  pub follows : (l s : ℕ) → l < s → l < n → Memᴰ s (group joined n l) → leads joined n s ≡ false
  follows l s h hl m = is_false (leads joined n s) (not_T (leads joined n s) (λ t. let k = leads_le joined n s l t (group_sym l s hl m) in omega arith))

  -- a leader's group holds x, and then no other leader's does
  others : (x l : ℕ) → l < n → T (leads joined n l) → Memᴰ x (group joined n l) → (z : ℕ) → (z ≡ l → ⊥) → z < n → T (leads joined n z) → has x (group joined n z) ≡ false
  others x l hl tl m z e hz tz = is_false (has x (group joined n z)) (not_T (has x (group joined n z)) (λ t. e (one_leader z l x hz hl tz tl (has_mem x (group joined n z) t) m)))

  -- the groups before the one that l leads, as many as lead before l, and those after it, none of which has x
  pub groups_at :
      (x l : ℕ) → l < n → T (leads joined n l) → Memᴰ x (group joined n l)
      → (gs hs : List (List ℕ)) × (groups joined n ≡ gs ++ (group joined n l ∷ hs)) × (length gs ≡ count (leads joined n) (below l)) × All (λ z. has x z ≡ false) gs × All (λ z. has x z ≡ false) hs
  unfolding groups count
  groups_at x l h t m =
      let w = below_at l n h in
      let A = filter (leads joined n) (below l) in
      let B = filter (leads joined n) w.0 in
      let e : filter (leads joined n) (below n) ≡ A ++ (l ∷ B) =
      ap (filter (leads joined n)) w.1 ∙ filter_append (leads joined n) (below l) (l ∷ w.0) ∙ ap (λ (z : List ℕ). A ++ z) (filter_cons (leads joined n) l w.0 t) in (
        map (group joined n) A,
        map (group joined n) B,
        ap (map (group joined n)) e ∙ map-append (group joined n) A (l ∷ B),
        length-map A (group joined n),
        all_map (λ z. has x z ≡ false) (group joined n) A
            (all_imp (λ z. (z < l) × T (leads joined n z)) (λ z. has x (group joined n z) ≡ false) (λ z q. others x l h t m z (λ e. let k = q.0 in omega arith) (let k = q.0 in omega arith) q.1) A
            (all_filter (λ z. z < l) (leads joined n) (below l) (below_all l))),
        all_map (λ z. has x z ≡ false) (group joined n) B
            (all_imp (λ z. ((l < z) × (z < n)) × T (leads joined n z)) (λ z. has x (group joined n z) ≡ false) (λ z q. others x l h t m z (λ e. let k = q.0.0 in omega arith) q.0.1 q.1) B
            (all_filter (λ z. (l < z) × (z < n)) (leads joined n) w.0 w.2)),
      )

-- ---- what a reader looks for

module _ (joined : ℕ → ℕ → Bool) (n : ℕ) where
  -- a group is exactly what a chain reaches
  pub group_is_chain : (i j : ℕ) → i < n → Memᴰ j (group joined n i) ↔ Chain joined n i j
  group_is_chain i j h = ((λ m. group_chain joined n i j m), (λ c. chain_group joined n h c))

module _ (joined : ℕ → ℕ → Bool) (n : ℕ) (turns : (k l : ℕ) → T (joined k l) → T (joined l k)) where
  -- each of 0 .. n - 1 is in exactly one group
  pub in_one_group : (x : ℕ) → x < n → count (has x) (groups joined n) ≡ 1
  in_one_group x h =
      let c = covered joined n turns x h in
      let w = groups_at joined n turns x c.0 c.1 c.2 c.3 in
      ap (count (has x)) w.2 ∙ count_append (has x) w.0 (group joined n c.0 ∷ w.1)
      ∙ omega (arith, none w.0 w.4, count_append (has x) (group joined n c.0 ∷ []) w.1, none w.1 w.5, count_one (has x) (group joined n c.0) (mem_has x (group joined n c.0) c.3))
    where
      none : (gs : List (List ℕ)) → All (λ z. has x z ≡ false) gs → count (has x) gs ≡ 0
      none gs a = count_zero (has x) gs (λ z m t. subst T (all_in (λ y. has x y ≡ false) z gs a m) t)

  -- the label of a thing is how many lead before its leader
  pub label_is : (x l : ℕ) → l < n → T (leads joined n l) → Memᴰ x (group joined n l) → label_of joined n x ≡ count (leads joined n) (below l)
  unfolding label_of
  label_is x l h t m =
      let w = groups_at joined n turns x l h t m in
      ap (first (has x)) w.2 ∙ first_after (has x) w.0 (group joined n l) w.1 w.4 (mem_has x (group joined n l) m) ∙ w.3

  -- a label is the place of a group
  pub label_below : (x : ℕ) → x < n → label_of joined n x < length (groups joined n)
  label_below x h =
      let c = covered joined n turns x h in
      rw (label_is x c.0 c.1 c.2 c.3, groups_length joined n) (count_strict (leads joined n) c.0 n c.1 c.2)

  -- things in one group have one label, and only those
  pub same_label : (x y : ℕ) → x < n → y < n → Memᴰ y (group joined n x) ↔ (label_of joined n x ≡ label_of joined n y)
  same_label x y hx hy = (to, from)
    where
      to : Memᴰ y (group joined n x) → label_of joined n x ≡ label_of joined n y
      to m =
          let c = covered joined n turns x hx in
          label_is x c.0 c.1 c.2 c.3 ∙ sym (label_is y c.0 c.1 c.2 (group_trans joined n turns c.0 x y c.1 c.3 m))

      from : label_of joined n x ≡ label_of joined n y → Memᴰ y (group joined n x)
      from e =
          let c = covered joined n turns x hx in
          let d = covered joined n turns y hy in
          let l = count_injective (leads joined n) c.0 d.0 c.2 d.2 (sym (label_is x c.0 c.1 c.2 c.3) ∙ e ∙ label_is y d.0 d.1 d.2 d.3) in
          group_trans joined n turns x c.0 y hx (group_sym joined n turns c.0 x c.1 c.3) (subst (λ z. Memᴰ y (group joined n z)) (sym l) d.3)
