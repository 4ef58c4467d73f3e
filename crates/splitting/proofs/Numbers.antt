-- The number that a face has for a corner, by the leaders among the corners. Assumes nothing.
use mathlib.Core.Path.{◌≡◌, refl, sym, ap, ◌∙◌, subst}
use mathlib.Core.Logic.{◌≢◌}
use mathlib.Core.Bool.{Bool, false, not, ◌&&◌, cond}
use mathlib.Core.List.Memᴰ
use mathlib.Core.List.{List, [], ◌∷◌, ◌++◌, map, map-append, map-map, Memᴰ}
use Prim.Native.Nat.{ℕ, zero, suc, ◌+◌, ◌*◌, ◌≤◌, ◌<◌, zero-le}
use native.Mathlib.Omega.{arith}
use native.Mathlib.Nat.{add-zero}
use native.Mathlib.Decide.{dec_lt}
use borrow.Author.Tests.{lt-ltb, le-ltb}
use lib.ListN.{length, get_or, drop, length-map}
use lib.Dec.{T, ltb, ltb→lt, not_T}
use lib.Ieee.Fits.{and_i}
use lib.Ieee.Bits.{is_true, is_false}
use Rattle.rules.specs.Lists.{below, filter, count, has}
use Rattle.rules.specs.Mesh.{Face, face, corners}
use Rattle.rules.specs.Groups.{group, groups, leads}
use Rattle.rules.specs.Pass5.{entries_at, fans}
use Rattle.rule_laws.proofs.Tests.{and_elim}
use Rattle.rule_laws.proofs.Lists.{below_suc, filter_append, filter_cons}
use Rattle.rule_laws.proofs.Rising.{All, all_imp, all_filter, all_map, below_all, below_at}
use Rattle.rule_laws.proofs.Members.{mem_has, has_mem, in_all}
use Rattle.rule_laws.proofs.Groups.{Chain, Chain.stay, Chain.link, group_chain, group_self, group_closed}
use Rattle.rule_laws.proofs.Leaders.{leads_of, group_sym, one_leader}
use Rattle.rule_laws.proofs.Classes.{leads_same}
use Rattle.rule_laws.proofs.Splitting.{target, share_sym}
use Rattle.rule_laws.proofs.Fans.{share_elim, share_intro}
use Rattle.splitting.specs.Corners.{joined_at, corners_at, extra, extras, number_at}
use Rattle.splitting.proofs.Agreeing.{filter_agree, on_below}
use Rattle.splitting.proofs.Entries.{corner, at, joined, as_many, class}

-- ---- the number by the first group that has the face

-- a group that does not have the face only counts
target_miss : (v Q i : ℕ) (g : List ℕ) (gs : List (List ℕ)) → has i g ≡ false → target v Q (g ∷ gs) i ≡ target v (suc Q) gs i
unfolding target
target_miss v Q i g gs e = ap (λ b. cond b Q (target v (suc Q) gs i)) e

-- so do several
target_skip : (v Q i : ℕ) (gs hs : List (List ℕ)) → All (λ g. has i g ≡ false) gs → target v Q (gs ++ hs) i ≡ target v (Q + length gs) hs i
target_skip v Q i [] hs a = ap (λ n. target v n hs i) (sym (add-zero Q))
target_skip v Q i (g ∷ gs) hs a =
    target_miss v Q i g (gs ++ hs) a.0
    ∙ target_skip v (suc Q) i gs hs a.1
    ∙ (let e : suc Q + length gs ≡ Q + suc (length gs) = omega arith in ap (λ n. target v n hs i) e)

-- the first that has it gives the number
target_hit : (v Q i : ℕ) (g : List ℕ) (gs : List (List ℕ)) → T (has i g) → target v Q (g ∷ gs) i ≡ Q
unfolding target
target_hit v Q i g gs t = ap (λ b. cond b Q (target v (suc Q) gs i)) (is_true (has i g) t)

-- where none has it, v stays
target_none : (v Q i : ℕ) (gs : List (List ℕ)) → All (λ g. has i g ≡ false) gs → target v Q gs i ≡ v
unfolding target
target_none v Q i [] a = refl
target_none v Q i (g ∷ gs) a = ap (λ b. cond b Q (target v (suc Q) gs i)) a.0 ∙ target_none v (suc Q) i gs a.1

module _ (v Q i n : ℕ) (F : ℕ → List ℕ) (p : ℕ → Bool) where
  -- the first of some numbered groups gives the number
  target_first : (l : ℕ) → l < n → T (p l) → T (has i (F l)) → ((z : ℕ) → z < l → T (p z) → has i (F z) ≡ false) → target v Q (map F (filter p (below n))) i ≡ Q + count p (below l)
  target_first l h t hit before =
      let w = below_at l n h in
      let A = filter p (below l) in
      let B = filter p w.0 in
      let e : filter p (below n) ≡ A ++ (l ∷ B) = ap (filter p) w.1 ∙ filter_append p (below l) (l ∷ w.0) ∙ ap (λ (z : List ℕ). A ++ z) (filter_cons p l w.0 t) in
      ap (λ zs. target v Q (map F zs) i) e
      ∙ ap (λ gs. target v Q gs i) (map-append F A (l ∷ B))
      ∙ target_skip v Q i (map F A) (F l ∷ map F B)
      (all_map (λ g. has i g ≡ false) F A (all_imp (λ z. (z < l) × T (p z)) (λ z. has i (F z) ≡ false) (λ z q. before z q.0 q.1) A (all_filter (λ z. z < l) p (below l) (below_all l))))
      ∙ target_hit v (Q + length (map F A)) i (F l) (map F B) hit
      ∙ (unfold count in ap (λ k. Q + k) (length-map A F))

  -- and where none has it, v stays
  target_never : ((z : ℕ) → z < n → T (p z) → has i (F z) ≡ false) → target v Q (map F (filter p (below n))) i ≡ v
  target_never never =
      target_none v Q i (map F (filter p (below n)))
      (all_map (λ g. has i g ≡ false) F (filter p (below n))
      (all_imp (λ z. (z < n) × T (p z)) (λ z. has i (F z) ≡ false) (λ z q. never z q.0 q.1) (filter p (below n)) (all_filter (λ z. z < n) p (below n) (below_all n))))

-- ---- the groups split off

-- all but the first
drop_map : {A B : Type 0} (f : A → B) (xs : List A) → drop 1 (map f xs) ≡ map f (drop 1 xs)
drop_map f [] = refl
drop_map f (x ∷ xs) = refl

-- where 0 passes, all that pass but the first are those above 0
drop_first : (p : ℕ → Bool) (n : ℕ) → T (p 0) → drop 1 (filter p (below n)) ≡ filter (λ j. ltb 0 j && p j) (below n)
drop_first p zero t = unfold below filter in refl
drop_first p (suc n) t =
    rw (below_suc n)
    (ap (drop 1) (filter_cons p 0 (map suc (below n)) t)
    ∙ filter_agree p (λ j. ltb 0 j && p j) (map suc (below n)) (all_map (λ j. p j ≡ (ltb 0 j && p j)) suc (below n) (in_all (λ j. p (suc j) ≡ (ltb 0 (suc j) && p (suc j))) (below n) (λ j m. ap (λ b. b && p (suc j)) (sym (lt-ltb 0 (suc j) (omega arith))))))
    ∙ sym (unfold filter in refl))

-- the number of a group that is split off
pub number_new : (fs : List Face) (v Q j : ℕ) → T (extra fs v j) → number_at fs v Q j ≡ Q + count (extra fs v) (below j)
unfolding number_at
number_new fs v Q j t = ap (λ b. cond b (Q + count (extra fs v) (below j)) v) (is_true (extra fs v j) t)

-- and of one that is not
pub number_old : (fs : List Face) (v Q j : ℕ) → extra fs v j ≡ false → number_at fs v Q j ≡ v
unfolding number_at
number_old fs v Q j e = ap (λ b. cond b (Q + count (extra fs v) (below j)) v) e

module _ (fs : List Face) (v : ℕ) where
  -- how many entries there are
  abbrev many : ℕ
  many = length (entries_at fs v)

  -- the faces of the group of entry z
  abbrev fan : ℕ → List ℕ
  fan z = map (at fs v) (group (joined fs v) many z)

  -- joined entries are joined the other way
  pub turns : (k l : ℕ) → T (joined fs v k l) → T (joined fs v l k)
  turns k l t = share_sym v (face fs (at fs v k)) (face fs (at fs v l)) t

  -- entry 0 leads
  zero_leads : T (leads (joined fs v) many 0)
  zero_leads = leads_of (joined fs v) many 0 (λ y m. zero-le)

  -- an entry but the first leads exactly if its corner is extra
  extra_is : (j : ℕ) → j < many → (ltb 0 j && leads (joined fs v) many j) ≡ extra fs v j
  unfolding extra
  extra_is j h = ap (λ b. ltb 0 j && b) (leads_same (class fs v) j h)

  -- the groups split off, by their leaders
  rest_is : drop 1 (fans fs v) ≡ map fan (filter (extra fs v) (below many))
  unfolding fans groups
  rest_is =
      drop_map (map (at fs v)) (map (group (joined fs v) many) (filter (leads (joined fs v) many) (below many)))
      ∙ ap (map (map (at fs v))) (drop_map (group (joined fs v) many) (filter (leads (joined fs v) many) (below many)))
      ∙ map-map (map (at fs v)) (group (joined fs v) many) (drop 1 (filter (leads (joined fs v) many) (below many)))
      ∙ ap (map fan)
      (drop_first (leads (joined fs v) many) many zero_leads
      ∙ filter_agree (λ j. ltb 0 j && leads (joined fs v) many j) (extra fs v) (below many) (on_below (λ j. (ltb 0 j && leads (joined fs v) many j) ≡ extra fs v j) many extra_is))

  -- as many as corners are extra
  pub rest_length : length (drop 1 (fans fs v)) ≡ extras fs v
  unfolding extras count
  rest_length = ap length rest_is ∙ length-map (filter (extra fs v) (below many)) fan ∙ ap (λ n. length (filter (extra fs v) (below n))) (as_many fs v)

  -- v is split exactly if some are
  pub split_is : ltb 1 (length (fans fs v)) ≡ ltb 0 (extras fs v)
  split_is = go (fans fs v) rest_length
    where
      go : (gs : List (List ℕ)) → length (drop 1 gs) ≡ extras fs v → ltb 1 (length gs) ≡ ltb 0 (extras fs v)
      go [] e = rw (sym e)
      go (g ∷ []) e = rw (sym e)
      go (g ∷ h ∷ gs) e = lt-ltb 1 (length (g ∷ h ∷ gs)) (omega arith) ∙ sym (lt-ltb 0 (extras fs v) (omega arith))

  -- ---- the number of a face for v

  -- a group that is split off is led by an entry that is not the first
  extra_leads : (z : ℕ) → z < many → T (extra fs v z) → (0 < z) × T (leads (joined fs v) many z)
  extra_leads z h t = let w = and_elim (ltb 0 z) (leads (joined fs v) many z) (subst T (sym (extra_is z h)) t) in (ltb→lt 0 z w.0, w.1)

  -- and an entry that leads and is not the first is extra
  pub leads_extra : (z : ℕ) → z < many → 0 < z → T (leads (joined fs v) many z) → T (extra fs v z)
  leads_extra z h p t = subst T (extra_is z h) (and_i (ltb 0 z) (leads (joined fs v) many z) (rw (lt-ltb 0 z p) tt) t)

  -- entry 0 is not
  pub zero_not : extra fs v 0 ≡ false
  unfolding extra
  zero_not = ap (λ b. b && leads (joined_at fs) (3 * length fs) (get_or (corners_at fs v) 0 0)) (le-ltb 0 0 zero-le)

  -- an entry of a face in a group
  in_fan : (i z : ℕ) → T (has i (fan z)) → (y : ℕ) × Memᴰ y (group (joined fs v) many z) × (at fs v y ≡ i)
  in_fan i z t = Memᴰ.of_map (at fs v) (group (joined fs v) many z) (has_mem i (fan z) t)

  -- a face in the fan of an entry in the group
  fan_in : (k z : ℕ) → Memᴰ k (group (joined fs v) many z) → T (has (at fs v k) (fan z))
  fan_in k z m = mem_has (at fs v k) (fan z) (Memᴰ.map (at fs v) m)

  module _ (Q : ℕ) where
    -- A face with another corner than v: the number of its entry's leader.
    pub by_leader :
        (k x l : ℕ) → k < many → x ≢ v → Memᴰ x (corners (face fs (at fs v k)))
        → l < many → T (leads (joined fs v) many l) → Memᴰ k (group (joined fs v) many l)
        → target v Q (drop 1 (fans fs v)) (at fs v k) ≡ number_at fs v Q l
    by_leader k x l hk ne mx hl tl ml =
        ap (λ gs. target v Q gs (at fs v k)) rest_is ∙ go (dec_lt 0 l)
      where
        own : (z : ℕ) → z < many → T (leads (joined fs v) many z) → T (has (at fs v k) (fan z)) → z ≡ l
        own z hz tz t =
            let w = in_fan (at fs v k) z t in
            let s : T (joined fs v w.0 k) = rw w.2 (share_intro v (face fs (at fs v k)) (face fs (at fs v k)) x ne mx mx) in
            one_leader (joined fs v) many turns z l k hz hl tz tl (group_closed (joined fs v) many z w.0 k hz hk w.1 s) ml

        other : (z : ℕ) → z < many → T (leads (joined fs v) many z) → z ≢ l → has (at fs v k) (fan z) ≡ false
        other z hz tz q = is_false (has (at fs v k) (fan z)) (not_T (has (at fs v k) (fan z)) (λ t. q (own z hz tz t)))

        go : Dec (0 < l) → target v Q (map fan (filter (extra fs v) (below many))) (at fs v k) ≡ number_at fs v Q l
        go (yes p) =
            target_first v Q (at fs v k) many fan (extra fs v) l hl (leads_extra l hl p tl) (fan_in k l ml)
            (λ z hz tz. other z (omega arith) (extra_leads z (omega arith) tz).1 (λ q. absurd (omega arith)))
            ∙ sym (number_new fs v Q l (leads_extra l hl p tl))
        go (no p) =
            let z : l ≡ 0 = omega arith in
            target_never v Q (at fs v k) many fan (extra fs v)
            (λ z hz tz. let w = extra_leads z hz tz in other z hz w.1 (λ q. absurd (omega (arith, w.0))))
            ∙ sym (number_old fs v Q l (ap (extra fs v) z ∙ zero_not))

    -- An entry of a face with no other corner than v is joined to none, so it is alone in its group and leads it.
    module _ (i : ℕ) (only : (x : ℕ) → Memᴰ x (corners (face fs i)) → x ≡ v) where
      alone : {y z : ℕ} → at fs v y ≡ i → Chain (joined fs v) many y z → z ≡ y
      alone e stay = refl
      alone {y} e (link {j = j} {k = k} c t b) =
          let q = alone e c in
          let w = share_elim v (face fs (at fs v j)) (face fs (at fs v k)) t in
          absurd (w.1 (only w.0 (subst (λ f. Memᴰ w.0 (corners (face fs f))) (ap (at fs v) q ∙ e) w.2)))

      pub alone_leads : (y : ℕ) → y < many → at fs v y ≡ i → T (leads (joined fs v) many y)
      alone_leads y h e = leads_of (joined fs v) many y (λ z m. let q = alone e (group_chain (joined fs v) many y z m) in omega arith)

      -- so only its own fan has the face
      own_fan : (z : ℕ) → z < many → T (has i (fan z)) → at fs v z ≡ i
      own_fan z h t =
          let w = in_fan i z t in
          let q = alone w.2 (group_chain (joined fs v) many w.0 z (group_sym (joined fs v) many turns z w.0 h w.1)) in
          ap (at fs v) q ∙ w.2

      not_before : (k z : ℕ) → k < many → z < k → ((y : ℕ) → y < many → at fs v y ≡ i → 0 < y → k ≤ y) → T (extra fs v z) → has i (fan z) ≡ false
      not_before k z hk hz least t =
          is_false (has i (fan z)) (not_T (has i (fan z)) (λ q. let b = least z (omega arith) (own_fan z (omega arith) q) (extra_leads z (omega arith) t).0 in absurd (omega arith)))

      -- the number of the first of its entries that is not the first at v
      pub by_first : (k : ℕ) → k < many → 0 < k → at fs v k ≡ i → ((y : ℕ) → y < many → at fs v y ≡ i → 0 < y → k ≤ y) → target v Q (drop 1 (fans fs v)) i ≡ number_at fs v Q k
      by_first k hk p e least =
          let ex = leads_extra k hk p (alone_leads k hk e) in
          ap (λ gs. target v Q gs i) rest_is
          ∙ target_first v Q i many fan (extra fs v) k hk ex (subst (λ f. T (has f (fan k))) e (fan_in k k (group_self (joined fs v) many k hk))) (λ z hz tz. not_before k z hk hz least tz)
          ∙ sym (number_new fs v Q k ex)
