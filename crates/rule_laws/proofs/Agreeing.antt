-- The demand's words and those of the passes agree: one fan by chains and by pass 5's groups, a shared edge by corners and by the users of an edge, each
-- directed edge once by steps and by pass 4's walkers. Assumes nothing.
use mathlib.Core.Path.{◌≡◌, refl, sym, ap, ◌∙◌, subst, subst₂}
use mathlib.Core.Logic.{◌↔◌, ◌⊎◌, inl, inr, ◌≢◌}
use mathlib.Core.Bool.{Bool}
use mathlib.Core.List.Memᴰ
use mathlib.Core.List.{List, map, Memᴰ}
use Prim.Native.Nat.{ℕ, ◌≤◌, ◌<◌}
use native.Mathlib.Omega.{arith}
use native.Mathlib.Decide.{dec_le}
use lib.ListN.{length, get_or, length-map}
use lib.Dec.{T}
use Rattle.rules.specs.Lists.{below, filter, count, each}
use Rattle.rules.specs.Mesh.{Face, face, corners}
use Rattle.rules.specs.Steps.{Step, step, steps, same, edge, opposite, Entry, entries, users}
use Rattle.rules.specs.Groups.{group, leads, groups}
use Rattle.rules.specs.Pass5.{entries_at, share, fans}
use Rattle.rule_laws.proofs.Demand.{Chain, stay, link, across_edge, OneFan, Distinct}
use Rattle.rule_laws.proofs.Rising.{all_at}
use Rattle.rule_laws.proofs.Members.{mem_below, mem_each, mem_each_of, mem_filter, mem_has, mem_left, mem_three}
use Rattle.rule_laws.proofs.Counting.{count_onto, only_one}
use Rattle.rule_laws.proofs.Groups.{chain_end, chain_flip, chain_group, chain_join, covered, group_chain, group_self}
use Rattle.rule_laws.proofs.Leaders.{groups_length, one_leader}
use Rattle.rule_laws.proofs.Once.{Once, same_eq}
use Rattle.rule_laws.proofs.InOut.{once_steps, walkers_count, edge_opposite, either_way}
use Rattle.rule_laws.proofs.TwoUsers.{eq_same}
use Rattle.rule_laws.proofs.Wedges.{step_ends, step_between}
use Rattle.rule_laws.proofs.Splitting.{entry_of, share_sym}
use Rattle.rule_laws.proofs.Fans.{entries_at_v, share_intro, share_elim, across_elim, across_intro}

-- ---- one fan, by chains of faces and by groups of entries

module _ (fs : List Face) (v : ℕ) where
  -- the face of entry k at v
  abbrev at : ℕ → ℕ
  at k = get_or (entries_at fs v) k 0

  -- how many entries there are
  abbrev n : ℕ
  n = length (entries_at fs v)

  -- pass 5 joins entries whose faces share another corner
  abbrev joined : ℕ → ℕ → Bool
  joined k l = share v (face fs (at k)) (face fs (at l))

  -- this goes both ways
  turns : (k l : ℕ) → T (joined k l) → T (joined l k)
  turns k l t = share_sym v (face fs (at k)) (face fs (at l)) t

  -- there are as many fans as leaders
  pub fans_count : length (fans fs v) ≡ count (leads joined n) (below n)
  unfolding fans
  fans_count = length-map (groups joined n) (map at) ∙ groups_length joined n

  -- an entry is a face with the corner v
  at_v : (k : ℕ) → k < n → (at k < length fs) × Memᴰ v (corners (face fs (at k)))
  at_v k h = all_at (λ i. (i < length fs) × Memᴰ v (corners (face fs i))) (entries_at fs v) 0 k (entries_at_v fs v) h

  -- a chain of entries is a chain of their faces
  faces_chain : {k l : ℕ} → k < n → Chain joined n k l → Chain (across_edge fs v) (length fs) (at k) (at l)
  faces_chain h stay = stay
  faces_chain h (link {j = j} {k = l} c t b) =
      let vj = at_v j (chain_end h c) in
      let vl = at_v l b in
      link (faces_chain h c) (across_intro fs v (at j) (at l) vj.1 vl.1 t) vl.0

  -- a chain of faces is a chain of entries, up to some entry of its last face
  entries-chain :
      {i j : ℕ} (k : ℕ) → k < n → at k ≡ i → Chain (across_edge fs v) (length fs) i j
      → (l : ℕ) × (l < n) × (at l ≡ j) × Chain joined n k l
  entries-chain k h e stay = (k, h, e, stay)
  entries-chain k h e (link {j = j} {k = z} c t b) =
      let w = entries-chain k h e c in
      let a = across_elim fs v j z t in
      let u = entry_of fs v z b (mem_has v (corners (face fs z)) a.1) in
      (u.0, u.1, u.2, link w.3 (subst₂ (λ x y. T (share v (face fs x) (face fs y))) (sym w.2) (sym u.2) a.2) u.1)

  -- where pass 5 finds at most one group, the faces form one fan
  pub fan_of_groups : length (fans fs v) ≤ 1 → OneFan fs v
  fan_of_groups few i j hi hj ti tj =
      let a = entry_of fs v i hi ti in
      let b = entry_of fs v j hj tj in
      let c = covered joined n turns a.0 a.1 in
      let d = covered joined n turns b.0 b.1 in
      let e : c.0 ≡ d.0 =
      only_one (leads joined n) c.0 d.0 (below n) (subst (λ x. x ≤ 1) fans_count few) (mem_below c.0 n c.1) (mem_below d.0 n d.1) c.2 d.2 in
      let there = chain_flip joined n turns c.1 (group_chain joined n c.0 a.0 c.3) in
      let back = group_chain joined n c.0 b.0 (subst (λ x. Memᴰ b.0 (group joined n x)) (sym e) d.3) in
      subst₂ (λ x y. Chain (across_edge fs v) (length fs) x y) a.2 b.2 (faces_chain a.1 (chain_join there back))

  -- a face with three different corners shares another corner than v with itself
  self_share : (f : Face) → Distinct f → Memᴰ v (corners f) → T (share v f f)
  self_share f d m = go (mem_three m)
    where
      first : Memᴰ f.a (corners f)
      first = Memᴰ.head refl

      second : Memᴰ f.b (corners f)
      second = Memᴰ.tail (Memᴰ.head refl)

      go : (v ≡ f.a) ⊎ ((v ≡ f.b) ⊎ (v ≡ f.c)) → T (share v f f)
      go (inl e) = share_intro v f f f.b (λ q. d.0 (sym (q ∙ e))) second second
      go (inr (inl e)) = share_intro v f f f.a (λ q. d.0 (q ∙ e)) first first
      go (inr (inr e)) = share_intro v f f f.a (λ q. d.2 (sym (q ∙ e))) first first

  -- where the faces form one fan, two leaders are one
  leaders-one :
      ((i : ℕ) → i < length fs → Distinct (face fs i)) → OneFan fs v → (k l : ℕ) → k < n → l < n → T (leads joined n k) → T (leads joined n l) → k ≡ l
  leaders-one distinct fan k l hk hl tk tl =
      let vk = at_v k hk in
      let vl = at_v l hl in
      let w =
      entries-chain k hk refl
      (fan (at k) (at l) vk.0 vl.0 (mem_has v (corners (face fs (at k))) vk.1) (mem_has v (corners (face fs (at l))) vl.1)) in
      let s : T (joined w.0 l) =
      subst (λ x. T (share v (face fs x) (face fs (at l)))) (sym w.2) (self_share (face fs (at l)) (distinct (at l) vl.0) vl.1) in
      one_leader joined n turns k l l hk hl tk tl (chain_group joined n hk (link w.3 s hl)) (group_self joined n l hl)

  -- where the faces form one fan and repeat no corner, pass 5 finds at most one group
  pub groups_of_fan : ((i : ℕ) → i < length fs → Distinct (face fs i)) → OneFan fs v → length (fans fs v) ≤ 1
  groups_of_fan distinct fan = subst (λ x. x ≤ 1) (sym fans_count) (go (dec_le (count (leads joined n) (below n)) 1))
    where
      go : Dec (count (leads joined n) (below n) ≤ 1) → count (leads joined n) (below n) ≤ 1
      go (yes l) = l
      go (no l) =
          let a = count_onto (leads joined n) n 0 (omega arith) in
          let b = count_onto (leads joined n) n 1 (omega arith) in
          let e = ap (λ x. count (leads joined n) (below x)) (leaders-one distinct fan a.0 b.0 a.1 b.1 a.2 b.2) in
          absurd (omega (arith, e, a.3, b.3))

  -- so the demand's one fan is pass 5's one group
  pub one_fan_is : ((i : ℕ) → i < length fs → Distinct (face fs i)) → OneFan fs v ↔ (length (fans fs v) ≤ 1)
  one_fan_is distinct = ((λ fan. groups_of_fan distinct fan), (λ few. fan_of_groups few))

-- ---- a shared edge, by corners and by the users of an edge

-- a face with two different corners has the edge between them
has_edge :
    (f : Face) (v x : ℕ) → x ≢ v → Memᴰ v (corners f) → Memᴰ x (corners f) → (s : Step) × Memᴰ s (steps f) × (edge s ≡ edge (step v x))
unfolding opposite
has_edge f v x ne mv mx = go (step_between f v x ne mv mx)
  where
    go : Memᴰ (step v x) (steps f) ⊎ Memᴰ (step x v) (steps f) → (s : Step) × Memᴰ s (steps f) × (edge s ≡ edge (step v x))
    go (inl m) = (step v x, m, refl)
    go (inr m) = (step x v, m, edge_opposite (step v x))

-- a face that has the edge between two points has both as corners
edge_corners : (f : Face) (v x : ℕ) (s : Step) → Memᴰ s (steps f) → T (same (edge (step v x)) (edge s)) → Memᴰ v (corners f) × Memᴰ x (corners f)
unfolding opposite
edge_corners f v x s m t = way (step_ends f s m) (either_way (step v x) s t)
  where
    In : ℕ → Type 0
    In y = Memᴰ y (corners f)

    way : In s.from × In s.to → T (same (step v x) s) ⊎ T (same (opposite (step v x)) s) → In v × In x
    way w (inl q) = let e = same_eq (step v x) s q in (subst In (sym e.0) w.0, subst In (sym e.1) w.1)
    way w (inr q) = let e = same_eq (step x v) s q in (subst In (sym e.1) w.1, subst In (sym e.0) w.0)

module _ (fs : List Face) where
  -- the entries of face i
  abbrev entries_of : ℕ → List Entry
  entries_of i = map (λ s. record { by = i; along = s }) (steps (face fs i))

  -- a face that has an edge is among its users
  user_in : (e : Step) (i : ℕ) → i < length fs → (s : Step) → Memᴰ s (steps (face fs i)) → edge s ≡ e → Memᴰ i (users fs e)
  unfolding users entries
  user_in e i h s m q =
      Memᴰ.map (λ n. n.by)
      (mem_filter (λ n. same e (edge n.along)) (record { by = i; along = s }) (entries fs)
      (mem_each entries_of i (record { by = i; along = s }) (below (length fs)) (mem_below i (length fs) h) (Memᴰ.map (λ z. record { by = i; along = z }) m))
      (eq_same e (edge s) (ap (λ z. z.from) (sym q)) (ap (λ z. z.to) (sym q))))

  -- and every user has it
  user_out : (e : Step) (i : ℕ) → Memᴰ i (users fs e) → (s : Step) × Memᴰ s (steps (face fs i)) × T (same e (edge s))
  unfolding users entries
  user_out e i m =
      let w = Memᴰ.of_map (λ n. n.by) (filter (λ n. same e (edge n.along)) (entries fs)) m in
      let k = mem_left (λ n. same e (edge n.along)) w.0 (entries fs) w.1 in
      let j = mem_each_of entries_of w.0 (below (length fs)) k.0 in
      let s = Memᴰ.of_map (λ z. record { by = j.0; along = z }) (steps (face fs j.0)) j.2 in
      let by : j.0 ≡ i = ap (λ n. n.by) s.2 ∙ w.2 in
      (s.0, subst (λ y. Memᴰ s.0 (steps (face fs y))) by s.1, subst (λ n. T (same e (edge n.along))) (sym s.2) k.1)

  -- two faces share an edge at v exactly where both are users of an edge between v and another point
  pub across_edge_is :
      (v i j : ℕ) → i < length fs → j < length fs
      → T (across_edge fs v i j) ↔ ((x : ℕ) × (x ≢ v) × Memᴰ i (users fs (edge (step v x))) × Memᴰ j (users fs (edge (step v x))))
  across_edge_is v i j hi hj = (to, from)
    where
      to : T (across_edge fs v i j) → (x : ℕ) × (x ≢ v) × Memᴰ i (users fs (edge (step v x))) × Memᴰ j (users fs (edge (step v x)))
      to t =
          let a = across_elim fs v i j t in
          let w = share_elim v (face fs i) (face fs j) a.2 in
          let p = has_edge (face fs i) v w.0 w.1 a.0 w.2 in
          let q = has_edge (face fs j) v w.0 w.1 a.1 w.3 in
          (w.0, w.1, user_in (edge (step v w.0)) i hi p.0 p.1 p.2, user_in (edge (step v w.0)) j hj q.0 q.1 q.2)

      from : (x : ℕ) × (x ≢ v) × Memᴰ i (users fs (edge (step v x))) × Memᴰ j (users fs (edge (step v x))) → T (across_edge fs v i j)
      from (x, ne, mi, mj) =
          let p = user_out (edge (step v x)) i mi in
          let q = user_out (edge (step v x)) j mj in
          let ci = edge_corners (face fs i) v x p.0 p.1 p.2 in
          let cj = edge_corners (face fs j) v x q.0 q.1 q.2 in
          across_intro fs v i j ci.0 cj.0 (share_intro v (face fs i) (face fs j) x ne ci.1 cj.1)

-- ---- each directed edge once, by steps and by walkers

-- the demand's count of steps is the number of pass 4's entries
pub once_is : (fs : List Face) → Once fs ↔ ((d : Step) → count (same d) (each steps fs) ≤ 1)
once_is fs = ((λ h. once_steps fs h), (λ h d. subst (λ x. x ≤ 1) (sym (walkers_count fs d)) (h d)))
