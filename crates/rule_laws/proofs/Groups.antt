-- A group is closed under the joining, and holds exactly what a chain leads to; every thing is in a group that its first one leads. Assumes nothing.
use mathlib.Core.Path.{◌≡◌, refl, sym, ap, subst}
use mathlib.Core.Logic.{◌⊎◌, inl, inr}
use mathlib.Core.Bool.{Bool, true, false, ◌||◌}
use mathlib.Core.List.Memᴰ
use mathlib.Core.List.{List, [], ◌∷◌, Memᴰ}
use Prim.Native.Nat.{ℕ, zero, suc, ◌≤◌, ◌<◌}
use native.Mathlib.Omega.{arith}
use native.Mathlib.Nat.{le_refl, not-suc-le-zero}
use lib.ListN.{length}
use lib.Dec.{T, eqb, leb, eqb→eq, eqb_refl}
use borrow.Author.Tests.{leb-false}
use Rattle.rules.specs.Lists.{below, any, times, count}
use Rattle.rules.specs.Groups.{grown, group, leads}
pub use Rattle.rule_laws.proofs.Demand.{Chain, Chain.stay, Chain.link}
use Rattle.rule_laws.proofs.Tests.{or_elim, or_left, or_right}
use Rattle.rule_laws.proofs.Rising.{all_imp, below_all}
use Rattle.rule_laws.proofs.Members.{all_not, any_intro, any_mem, below_mem, mem_below, mem_filter, mem_left, some_length}
use Rattle.rule_laws.proofs.Counting.{count_below_le, same_or_more}

-- ---- the rounds

module _ (joined : ℕ → ℕ → Bool) (n : ℕ) where
  -- j is in g, or joined to one in g
  abbrev reached : List ℕ → ℕ → Bool
  reached g j = any (λ i. eqb i j || joined i j) g

  -- what is reached is in the next round
  pub grown_intro : (g : List ℕ) (j : ℕ) → j < n → T (reached g j) → Memᴰ j (grown joined n g)
  unfolding grown
  grown_intro g j h t = mem_filter (reached g) j (below n) (mem_below j n h) t

  -- what is in g is reached
  reached_in : (g : List ℕ) (j : ℕ) → Memᴰ j g → T (reached g j)
  reached_in g j m = any_intro (λ i. eqb i j || joined i j) j g m (or_left (eqb j j) (joined j j) (eqb_refl j))

  -- so is what is joined to one in g
  reached_by : (g : List ℕ) (i j : ℕ) → Memᴰ i g → T (joined i j) → T (reached g j)
  reached_by g i j m t = any_intro (λ k. eqb k j || joined k j) i g m (or_right (eqb i j) (joined i j) t)

  -- a round more changes nothing, or adds something
  grows : (g : List ℕ) → (grown joined n g ≡ grown joined n (grown joined n g)) ⊎ (length (grown joined n g) < length (grown joined n (grown joined n g)))
  unfolding grown
  grows g =
      same_or_more (reached g) (reached (grown joined n g)) (below n)
      (all_imp (λ j. j < n) (λ j. T (reached g j) → T (reached (grown joined n g) j))
      (λ j h t. reached_in (grown joined n g) j (grown_intro g j h t)) (below n) (below_all n))

  -- what is there after k rounds from i
  abbrev rounds : ℕ → ℕ → List ℕ
  rounds i k = times k (grown joined n) (i ∷ [])

  -- after k + 1 rounds nothing changes any more, or more than k + 1 are there
  settled : (i k : ℕ) → i < n → (grown joined n (rounds i (suc k)) ≡ rounds i (suc k)) ⊎ (suc k < length (grown joined n (rounds i (suc k))))
  unfolding times
  settled i zero h = go (grows (i ∷ []))
    where
      go : (grown joined n (i ∷ []) ≡ grown joined n (grown joined n (i ∷ []))) ⊎ (length (grown joined n (i ∷ [])) < length (grown joined n (grown joined n (i ∷ []))))
          → (grown joined n (grown joined n (i ∷ [])) ≡ grown joined n (i ∷ [])) ⊎ (1 < length (grown joined n (grown joined n (i ∷ []))))
      go (inl e) = inl (sym e)
      go (inr l) = inr (let o = some_length i (grown joined n (i ∷ [])) (grown_intro (i ∷ []) i h (reached_in (i ∷ []) i (Memᴰ.head refl))) in omega arith)
  settled i (suc k) h = go (settled i k h) (grows (rounds i (suc k)))
    where
      go : (grown joined n (rounds i (suc k)) ≡ rounds i (suc k)) ⊎ (suc k < length (grown joined n (rounds i (suc k))))
          → (grown joined n (rounds i (suc k)) ≡ grown joined n (grown joined n (rounds i (suc k)))) ⊎ (length (grown joined n (rounds i (suc k))) < length (grown joined n (grown joined n (rounds i (suc k)))))
          → (grown joined n (grown joined n (rounds i (suc k))) ≡ grown joined n (rounds i (suc k))) ⊎ (suc (suc k) < length (grown joined n (grown joined n (rounds i (suc k)))))
      go (inl e) r = inl (ap (grown joined n) e)
      go (inr l) (inl e) = inl (sym e)
      go (inr l) (inr m) = inr (omega arith)

  -- there are never more than n
  grown_le : (g : List ℕ) → length (grown joined n g) ≤ n
  unfolding grown
  grown_le g = unfold count in count_below_le (reached g) n

  -- what is in the next round is below n, and reached
  grown_elim : (g : List ℕ) (j : ℕ) → Memᴰ j (grown joined n g) → (j < n) × T (reached g j)
  unfolding grown
  grown_elim g j m = let w = mem_left (reached g) j (below n) m in (below_mem j n w.0, w.1)

-- after n rounds nothing changes any more
pub group_settled : (joined : ℕ → ℕ → Bool) (n i : ℕ) → i < n → grown joined n (group joined n i) ≡ group joined n i
unfolding group
group_settled joined zero i h = absurd (not-suc-le-zero h)
group_settled joined (suc p) i h = go (settled joined (suc p) i p h)
  where
    go : (grown joined (suc p) (rounds joined (suc p) i (suc p)) ≡ rounds joined (suc p) i (suc p)) ⊎ (suc p < length (grown joined (suc p) (rounds joined (suc p) i (suc p))))
        → grown joined (suc p) (rounds joined (suc p) i (suc p)) ≡ rounds joined (suc p) i (suc p)
    go (inl e) = e
    go (inr l) = let m = grown_le joined (suc p) (rounds joined (suc p) i (suc p)) in absurd (omega arith)

-- a group is within 0 .. n - 1
pub group_within : (joined : ℕ → ℕ → Bool) (n i j : ℕ) → i < n → Memᴰ j (group joined n i) → j < n
group_within joined n i j h m =
    (grown_elim joined n (group joined n i) j (subst (λ g. Memᴰ j g) (sym (group_settled joined n i h)) m)).0

-- with a thing, a group has all that are joined to it
pub group_closed :
    (joined : ℕ → ℕ → Bool) (n i j k : ℕ) → i < n → k < n
    → Memᴰ j (group joined n i) → T (joined j k) → Memᴰ k (group joined n i)
group_closed joined n i j k hi hk m t =
    subst (λ g. Memᴰ k g) (group_settled joined n i hi)
    (grown_intro joined n (group joined n i) k hk (reached_by joined n (group joined n i) j k m t))

-- i itself is in every round
in_rounds : (joined : ℕ → ℕ → Bool) (n i k : ℕ) → i < n → Memᴰ i (rounds joined n i k)
unfolding times
in_rounds joined n i zero h = Memᴰ.head refl
in_rounds joined n i (suc k) h = grown_intro joined n (rounds joined n i k) i h (reached_in joined n (rounds joined n i k) i (in_rounds joined n i k h))

-- so it is in its group
pub group_self : (joined : ℕ → ℕ → Bool) (n i : ℕ) → i < n → Memᴰ i (group joined n i)
unfolding group
group_self joined n i h = in_rounds joined n i n h

-- what a chain reaches is in the group
pub chain_group : (joined : ℕ → ℕ → Bool) (n : ℕ) {i j : ℕ} → i < n → Chain joined n i j → Memᴰ j (group joined n i)
chain_group joined n h stay = group_self joined n _ h
chain_group joined n {i} h (link {j = j} {k = k} c t hk) = group_closed joined n i j k h hk (chain_group joined n h c) t

-- what is there after k rounds is reached by a chain
rounds_chain : (joined : ℕ → ℕ → Bool) (n i k j : ℕ) → Memᴰ j (rounds joined n i k) → Chain joined n i j
unfolding times
rounds_chain joined n i zero j m = subst (λ x. Chain joined n i x) (sym (Memᴰ.eq_of_singleton m)) stay
rounds_chain joined n i (suc k) j m =
    let e = grown_elim joined n (rounds joined n i k) j m in
    let w = any_mem (λ x. eqb x j || joined x j) (rounds joined n i k) e.1 in
    last w.0 (or_elim (eqb w.0 j) (joined w.0 j) w.2) e.0 (rounds_chain joined n i k w.0 w.1)
  where
    last : (x : ℕ) → T (eqb x j) ⊎ T (joined x j) → j < n → Chain joined n i x → Chain joined n i j
    last x (inl q) h c = subst (λ y. Chain joined n i y) (eqb→eq x j q) c
    last x (inr t) h c = link c t h

-- what is in a group is reached by a chain
pub group_chain : (joined : ℕ → ℕ → Bool) (n i j : ℕ) → Memᴰ j (group joined n i) → Chain joined n i j
unfolding group
group_chain joined n i j m = rounds_chain joined n i n j m

-- ---- with a joining that goes both ways, every one is in a group, which its first one leads

-- a chain stays below n
pub chain_end : {joined : ℕ → ℕ → Bool} {n i j : ℕ} → i < n → Chain joined n i j → j < n
chain_end h stay = h
chain_end h (link c t b) = b

-- one link more at its beginning
pub chain_cons : {joined : ℕ → ℕ → Bool} {n i j k : ℕ} → T (joined i j) → j < n → Chain joined n j k → Chain joined n i k
chain_cons t h stay = link stay t h
chain_cons t h (link c s b) = link (chain_cons t h c) s b

-- two chains, one after the other
pub chain_join : {joined : ℕ → ℕ → Bool} {n i j k : ℕ} → Chain joined n i j → Chain joined n j k → Chain joined n i k
chain_join c stay = c
chain_join c (link d t b) = link (chain_join c d) t b

module _ (joined : ℕ → ℕ → Bool) (n : ℕ) (turns : (k l : ℕ) → T (joined k l) → T (joined l k)) where
  -- a chain can be gone back
  pub chain_flip : {i j : ℕ} → i < n → Chain joined n i j → Chain joined n j i
  chain_flip h stay = stay
  chain_flip h (link {j = j} {k = k} c t b) = chain_cons (turns j k t) (chain_end h c) (chain_flip h c)

  -- a group has what a chain leads to from one of it
  along : (i : ℕ) {j k : ℕ} → i < n → Memᴰ j (group joined n i) → Chain joined n j k → Memᴰ k (group joined n i)
  along i h m stay = m
  along i h m (link {j = j} {k = k} c t b) = group_closed joined n i j k h b (along i h m c) t

  -- where k does not lead, its group has an earlier one
  earlier : (k : ℕ) → leads joined n k ≡ false → (a : ℕ) × (a < k) × Memᴰ a (group joined n k)
  unfolding leads
  earlier k e = let w = all_not (leb k) (group joined n k) e in (w.0, leb-false k w.0 w.2, w.1)

  -- k is in a group that l leads
  abbrev Covered : ℕ → Type 0
  Covered k = (l : ℕ) × (l < n) × T (leads joined n l) × Memᴰ k (group joined n l)

  -- k, or an earlier one of its group, leads; with a bound b on k
  covered_to : (b k : ℕ) → k ≤ b → k < n → Covered k
  covered_to zero k kb h = go (leads joined n k) refl
    where
      go : (q : Bool) → leads joined n k ≡ q → Covered k
      go true e = (k, h, rw e tt, group_self joined n k h)
      go false e = let w = earlier k e in absurd (omega (arith, w.1))
  covered_to (suc b) k kb h = go (leads joined n k) refl (λ a l c. covered_to b a l c)
    where
      go : (q : Bool) → leads joined n k ≡ q → ((a : ℕ) → a ≤ b → a < n → Covered a) → Covered k
      go true e r = (k, h, rw e tt, group_self joined n k h)
      go false e r =
          let w = earlier k e in
          let c = r w.0 (omega (arith, w.1)) (omega (arith, w.1)) in
          (c.0, c.1, c.2, along c.0 c.1 c.3 (chain_flip h (group_chain joined n k w.0 w.2)))

  -- every one below n is in a group that its first one leads
  pub covered : (k : ℕ) → k < n → Covered k
  covered k h = covered_to k k (le_refl k) h
