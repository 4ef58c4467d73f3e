-- A split at v keeps the edges and the fan at every other vertex, and leaves one fan at v and at each copy. Assumes nothing.
use mathlib.Core.Path.{◌≡◌, refl, sym, ap, ◌∙◌, subst, subst₂}
use mathlib.Core.Logic.{◌⊎◌, inl, inr, ◌≢◌}
use mathlib.Core.Bool.{Bool, true, false, not, ◌&&◌, cond}
use mathlib.Core.List.Memᴰ
use mathlib.Core.List.{List, [], ◌∷◌, map, Memᴰ}
use Prim.Native.Nat.{ℕ, suc, ◌≤◌, ◌<◌}
use native.Mathlib.Omega.{arith}
use native.Mathlib.Decide.{ℕ_discrete}
use borrow.Author.Tests.{eq-eqb, ne_eqb, eqb-true, eqb-false}
use lib.ListN.{length, get_or, drop}
use lib.Dec.{T, eqb, eqb→eq}
use lib.Ieee.Fits.{and_i}
use Rattle.rules.specs.Lists.{below, has, filter}
use Rattle.rules.specs.Mesh.{Face, face, corners, renamed}
use Rattle.rules.specs.State.{State}
use Rattle.rules.specs.Pass5.{share, fans, split, entries_at}
use Rattle.rules.specs.Groups.{group, leads, groups}
use Rattle.rule_laws.proofs.Tests.{and_elim}
use Rattle.rule_laws.proofs.Rising.{All, all_at, all_imp, all_filter, below_all, all_each, all_map}
use Rattle.rule_laws.proofs.Members.{all_members, any_intro, any_mem, below_mem, has_mem, mem_below, mem_filter, mem_has, mem_left}
use Rattle.rule_laws.proofs.Demand.{Chain, stay, link, across_edge, OneFan}
use Rattle.rule_laws.proofs.Groups.{chain_end, chain_flip, chain_join, group_chain, group_within, covered}
use Rattle.rule_laws.proofs.Once.{Inside, CornersBelow, face_inside}
use Rattle.rule_laws.proofs.Splitting.{instead, target, face_map_below, length_map_below, fans_together, Together, same_target, share_sym, entry_of, split_is}

-- ---- sharing, in words

-- a test for another number, passed
not_eqb : (x v : ℕ) → T (not (eqb x v)) → x ≢ v
not_eqb x v t e = subst (λ b. T (not b)) (eq-eqb x v e) t

-- another number passes the test
eqb_not : (x v : ℕ) → x ≢ v → T (not (eqb x v))
eqb_not x v ne = rw (ne_eqb x v ne) tt

-- faces that share an edge at v have a common corner beside v
pub share_elim : (v : ℕ) (f g : Face) → T (share v f g) → (x : ℕ) × (x ≢ v) × Memᴰ x (corners f) × Memᴰ x (corners g)
unfolding share
share_elim v f g t =
    let w = any_mem (λ x. not (eqb x v) && has x (corners g)) (corners f) t in
    let b = and_elim (not (eqb w.0 v)) (has w.0 (corners g)) w.2 in
    (w.0, not_eqb w.0 v b.0, w.1, has_mem w.0 (corners g) b.1)

-- a common corner beside v is an edge that they share
pub share_intro : (v : ℕ) (f g : Face) (x : ℕ) → x ≢ v → Memᴰ x (corners f) → Memᴰ x (corners g) → T (share v f g)
unfolding share
share_intro v f g x ne mf mg =
    any_intro (λ y. not (eqb y v) && has y (corners g)) x (corners f) mf
    (and_i (not (eqb x v)) (has x (corners g)) (eqb_not x v ne) (mem_has x (corners g) mg))

-- two faces at u that share an edge there are joined across it
pub across_intro :
    (fs : List Face) (u i j : ℕ) → Memᴰ u (corners (face fs i)) → Memᴰ u (corners (face fs j)) → T (share u (face fs i) (face fs j))
    → T (across_edge fs u i j)
unfolding share
across_intro fs u i j mi mj s =
    and_i (has u (corners (face fs i))) (has u (corners (face fs j)) && share u (face fs i) (face fs j)) (mem_has u (corners (face fs i)) mi)
    (and_i (has u (corners (face fs j))) (share u (face fs i) (face fs j)) (mem_has u (corners (face fs j)) mj) s)

-- and only those are
pub across_elim :
    (fs : List Face) (u i j : ℕ) → T (across_edge fs u i j)
    → Memᴰ u (corners (face fs i)) × Memᴰ u (corners (face fs j)) × T (share u (face fs i) (face fs j))
unfolding share
across_elim fs u i j t =
    let p = and_elim (has u (corners (face fs i))) (has u (corners (face fs j)) && share u (face fs i) (face fs j)) t in
    let q = and_elim (has u (corners (face fs j))) (share u (face fs i) (face fs j)) p.1 in
    (has_mem u (corners (face fs i)) p.0, has_mem u (corners (face fs j)) q.0, q.1)

-- ---- a face's number for v is v or a new one

-- it is v, or P or above
pub target_new : (v P : ℕ) (gs : List (List ℕ)) (i : ℕ) → (target v P gs i ≡ v) ⊎ (P ≤ target v P gs i)
unfolding target
target_new v P [] i = inl refl
target_new v P (g ∷ gs) i = go (has i g) (target_new v (suc P) gs i)
  where
    go : (b : Bool) → (target v (suc P) gs i ≡ v) ⊎ (suc P ≤ target v (suc P) gs i)
        → (cond b P (target v (suc P) gs i) ≡ v) ⊎ (P ≤ cond b P (target v (suc P) gs i))
    go true r = inr (omega arith)
    go false (inl e) = inl e
    go false (inr l) = inr (omega arith)

-- ---- entries and groups

-- every entry at v is a face at v
pub entries_at_v : (fs : List Face) (v : ℕ) → All (λ i. (i < length fs) × Memᴰ v (corners (face fs i))) (entries_at fs v)
unfolding entries_at
entries_at_v fs v =
    all_each (λ i. (i < length fs) × Memᴰ v (corners (face fs i))) (λ i. map (λ x. i) (filter (eqb v) (corners (face fs i)))) (below (length fs))
    (all_imp (λ i. i < length fs) (λ i. All (λ j. (j < length fs) × Memᴰ v (corners (face fs j))) (map (λ x. i) (filter (eqb v) (corners (face fs i)))))
    (λ i h.
    all_map (λ j. (j < length fs) × Memᴰ v (corners (face fs j))) (λ x. i) (filter (eqb v) (corners (face fs i)))
    (all_imp (λ x. Memᴰ x (corners (face fs i)) × T (eqb v x)) (λ x. (i < length fs) × Memᴰ v (corners (face fs i)))
    (λ x w. (h, subst (λ y. Memᴰ y (corners (face fs i))) (sym (eqb→eq v x w.1)) w.0))
    (filter (eqb v) (corners (face fs i)))
    (all_filter (λ x. Memᴰ x (corners (face fs i))) (eqb v) (corners (face fs i)) (all_members (corners (face fs i))))))
    (below (length fs)) (below_all (length fs)))

-- faces with the same number are both in one of the groups, or both in none
target_common :
    (v P i j : ℕ) (gs : List (List ℕ)) → v < P → target v P gs i ≡ target v P gs j
    → ((g : List ℕ) × Memᴰ g gs × T (has i g) × T (has j g)) ⊎ (((g : List ℕ) → Memᴰ g gs → T (has i g) → ⊥) × ((g : List ℕ) → Memᴰ g gs → T (has j g) → ⊥))
unfolding target
target_common v P i j [] h e = inr ((λ g m t. Memᴰ.not-nil m), (λ g m t. Memᴰ.not-nil m))
target_common v P i j (g ∷ gs) h e = go (has i g) (has j g) refl refl e (target_new v (suc P) gs i) (target_new v (suc P) gs j) (λ q. target_common v (suc P) i j gs (omega arith) q)
  where
    Goal : Type 0
    Goal = ((k : List ℕ) × Memᴰ k (g ∷ gs) × T (has i k) × T (has j k)) ⊎ (((k : List ℕ) → Memᴰ k (g ∷ gs) → T (has i k) → ⊥) × ((k : List ℕ) → Memᴰ k (g ∷ gs) → T (has j k) → ⊥))

    away : (x : ℕ) → has x g ≡ false → ((k : List ℕ) → Memᴰ k gs → T (has x k) → ⊥) → (k : List ℕ) → Memᴰ k (g ∷ gs) → T (has x k) → ⊥
    away x q r k m t = by_case (Memᴰ.cases_cons m)
      where
        by_case : (k ≡ g) ⊎ Memᴰ k gs → ⊥
        by_case (inl a) = subst (λ b. T b) (ap (has x) a ∙ q) t
        by_case (inr b) = r k b t

    go : (a b : Bool) → has i g ≡ a → has j g ≡ b
        → cond a P (target v (suc P) gs i) ≡ cond b P (target v (suc P) gs j)
        → (target v (suc P) gs i ≡ v) ⊎ (suc P ≤ target v (suc P) gs i) → (target v (suc P) gs j ≡ v) ⊎ (suc P ≤ target v (suc P) gs j)
        → (target v (suc P) gs i ≡ target v (suc P) gs j → ((k : List ℕ) × Memᴰ k gs × T (has i k) × T (has j k)) ⊎ (((k : List ℕ) → Memᴰ k gs → T (has i k) → ⊥) × ((k : List ℕ) → Memᴰ k gs → T (has j k) → ⊥)))
        → Goal
    go true true p q e ni nj r = inl (g, Memᴰ.head refl, rw p tt, rw q tt)
    go true false p q e ni (inl z) r = absurd (omega arith)
    go true false p q e ni (inr z) r = absurd (omega arith)
    go false true p q e (inl z) nj r = absurd (omega arith)
    go false true p q e (inr z) nj r = absurd (omega arith)
    go false false p q e ni nj r = lift (r e)
      where
        lift : ((k : List ℕ) × Memᴰ k gs × T (has i k) × T (has j k)) ⊎ (((k : List ℕ) → Memᴰ k gs → T (has i k) → ⊥) × ((k : List ℕ) → Memᴰ k gs → T (has j k) → ⊥)) → Goal
        lift (inl w) = inl (w.0, Memᴰ.tail w.1, w.2, w.3)
        lift (inr w) = inr (away i p w.0, away j q w.1)

-- where faces have the same number and each is in some group, one group has both
one_of :
    (v P i j : ℕ) → v < P → (gs : List (List ℕ)) → target v P (drop 1 gs) i ≡ target v P (drop 1 gs) j
    → (g : List ℕ) × Memᴰ g gs × T (has i g) → (g : List ℕ) × Memᴰ g gs × T (has j g)
    → (g : List ℕ) × Memᴰ g gs × T (has i g) × T (has j g)
one_of v P i j h [] e a b = absurd (Memᴰ.not-nil a.1)
one_of v P i j h (x ∷ xs) e a b = go (target_common v P i j xs h e)
  where
    first_has : (k : ℕ) → ((g : List ℕ) → Memᴰ g xs → T (has k g) → ⊥) → (g : List ℕ) → (g ≡ x) ⊎ Memᴰ g xs → T (has k g) → T (has k x)
    first_has k r g (inl q) s = subst (λ y. T (has k y)) q s
    first_has k r g (inr q) s = absurd (r g q s)

    go : ((g : List ℕ) × Memᴰ g xs × T (has i g) × T (has j g)) ⊎ (((g : List ℕ) → Memᴰ g xs → T (has i g) → ⊥) × ((g : List ℕ) → Memᴰ g xs → T (has j g) → ⊥))
        → (g : List ℕ) × Memᴰ g (x ∷ xs) × T (has i g) × T (has j g)
    go (inl w) = (w.0, Memᴰ.tail w.1, w.2, w.3)
    go (inr w) =
        (x, Memᴰ.head refl, first_has i w.0 a.0 (Memᴰ.cases_cons a.1) a.2, first_has j w.1 b.0 (Memᴰ.cases_cons b.1) b.2)

module _ (m : State) (v : ℕ) (inside : Inside (length m.points) m.faces) (hv : v < length m.points) where
  -- the number of face i for v
  unfoldable pub new : ℕ → ℕ
  new i = target v (length m.points) (drop 1 (fans m.faces v)) i

  -- the faces after the split
  unfoldable pub out : List Face
  out = (split m v).faces

  -- all of them, in one formula
  out_eq : out ≡ map (λ i. renamed (instead v (new i)) (face m.faces i)) (below (length m.faces))
  unfolding out new
  out_eq = split_is m v hv

  -- they are as many as before
  pub out_length : length out ≡ length m.faces
  out_length = ap length out_eq ∙ length_map_below (λ i. renamed (instead v (new i)) (face m.faces i)) (length m.faces)

  -- face i has its number in place of v
  out_at : (i : ℕ) → i < length m.faces → face out i ≡ renamed (instead v (new i)) (face m.faces i)
  out_at i h = ap (λ l. face l i) out_eq ∙ face_map_below (λ k. renamed (instead v (new k)) (face m.faces k)) (length m.faces) i h

  -- with a face, a group that is split off has every face that shares an edge with it at v
  together : All (Together m.faces v) (drop 1 (fans m.faces v))
  together = rest (fans m.faces v) (fans_together m.faces v)
    where
      rest : (xs : List (List ℕ)) → All (Together m.faces v) xs → All (Together m.faces v) (drop 1 xs)
      rest [] h = tt
      rest (x ∷ xs) h = h.1

  -- corners before the split are points before it
  small : (i x : ℕ) → i < length m.faces → Memᴰ x (corners (face m.faces i)) → x < length m.points
  unfolding face
  small i x h k = three_of (face m.faces i) (face_inside (length m.points) m.faces inside i h) k
    where
      three_of : (f : Face) → CornersBelow (length m.points) f → Memᴰ x (corners f) → x < length m.points
      three_of f b (Memᴰ.head e) = rw e b.0
      three_of f b (Memᴰ.tail (Memᴰ.head e)) = rw e b.1
      three_of f b (Memᴰ.tail (Memᴰ.tail (Memᴰ.head e))) = rw e b.2
      three_of f b (Memᴰ.tail (Memᴰ.tail (Memᴰ.tail x13))) = elim x13 [ ]

  -- a corner beside v stays
  keep_corner : (i x : ℕ) → i < length m.faces → x ≢ v → Memᴰ x (corners (face m.faces i)) → Memᴰ x (corners (face out i))
  unfolding renamed
  keep_corner i x h ne k =
      rw (out_at i h)
      (subst (λ y. Memᴰ y (map (instead v (new i)) (corners (face m.faces i)))) (ap (λ b. cond b (new i) x) (ne_eqb x v ne))
      (Memᴰ.map (instead v (new i)) k))

  -- a corner v becomes the number of the face
  new_corner : (i : ℕ) → i < length m.faces → Memᴰ v (corners (face m.faces i)) → Memᴰ (new i) (corners (face out i))
  unfolding renamed
  new_corner i h k =
      rw (out_at i h)
      (subst (λ y. Memᴰ y (map (instead v (new i)) (corners (face m.faces i)))) (ap (λ b. cond b (new i) v) (eq-eqb v v refl))
      (Memᴰ.map (instead v (new i)) k))

  -- every corner after the split comes from one before
  old_corner : (i y : ℕ) → i < length m.faces → Memᴰ y (corners (face out i)) → (x : ℕ) × Memᴰ x (corners (face m.faces i)) × (y ≡ instead v (new i) x)
  unfolding renamed
  old_corner i y h k =
      let w = Memᴰ.of_map (instead v (new i)) (corners (face m.faces i)) (subst (λ f. Memᴰ y (corners f)) (out_at i h) k) in
      (w.0, w.1, sym w.2)

  -- the number of a face is v or that of a new point
  new_or_v : (i : ℕ) → (new i ≡ v) ⊎ (length m.points ≤ new i)
  unfolding new
  new_or_v i = target_new v (length m.points) (drop 1 (fans m.faces v)) i

  -- faces that share an edge at v take the same number
  same_new :
      (i j : ℕ) → i < length m.faces → j < length m.faces → Memᴰ v (corners (face m.faces i)) → Memᴰ v (corners (face m.faces j))
      → T (share v (face m.faces i) (face m.faces j)) → new i ≡ new j
  unfolding new
  same_new i j hi hj vi vj s =
      same_target m.faces v (length m.points) i j hi hj (mem_has v (corners (face m.faces i)) vi) (mem_has v (corners (face m.faces j)) vj) s
      (drop 1 (fans m.faces v)) together

  -- faces joined across an edge at another vertex stay joined
  pub keep_edge :
      (u i j : ℕ) → u ≢ v → i < length m.faces → j < length m.faces
      → T (across_edge m.faces u i j) → T (across_edge out u i j)
  keep_edge u i j ne hi hj t =
      let p = across_elim m.faces u i j t in
      let w = share_elim u (face m.faces i) (face m.faces j) p.2 in
      across_intro out u i j (keep_corner i u hi ne p.0) (keep_corner j u hj ne p.1)
      (shared p.0 p.1 w.0 w.1 w.2 w.3 (ℕ_discrete w.0 v))
    where
      shared : Memᴰ u (corners (face m.faces i)) → Memᴰ u (corners (face m.faces j))
          → (x : ℕ) → x ≢ u → Memᴰ x (corners (face m.faces i)) → Memᴰ x (corners (face m.faces j)) → Dec (x ≡ v)
          → T (share u (face out i) (face out j))
      shared ui uj x xu xi xj (no xv) = share_intro u (face out i) (face out j) x xu (keep_corner i x hi xv xi) (keep_corner j x hj xv xj)
      shared ui uj x xu xi xj (yes e) =
          let vi = subst (λ y. Memᴰ y (corners (face m.faces i))) e xi in
          let vj = subst (λ y. Memᴰ y (corners (face m.faces j))) e xj in
          let s : new i ≡ new j = same_new i j hi hj vi vj (share_intro v (face m.faces i) (face m.faces j) u ne ui uj) in
          share_intro u (face out i) (face out j) (new i) (apart (new_or_v i) (small i u hi ui)) (new_corner i hi vi)
          (subst (λ y. Memᴰ y (corners (face out j))) (sym s) (new_corner j hj vj))
        where
          apart : (new i ≡ v) ⊎ (length m.points ≤ new i) → u < length m.points → new i ≢ u
          apart (inl a) l b = ne (sym b ∙ a)
          apart (inr a) l b = absurd (omega arith)

  -- a face that has u after the split had it before
  had : (u i : ℕ) → u ≢ v → u < length m.points → i < length m.faces → T (has u (corners (face out i))) → T (has u (corners (face m.faces i)))
  had u i ne hu h t =
      let w = old_corner i u h (has_mem u (corners (face out i)) t) in
      mem_has u (corners (face m.faces i)) (subst (λ y. Memᴰ y (corners (face m.faces i))) (back w.0 w.2) w.1)
    where
      back : (x : ℕ) → u ≡ instead v (new i) x → x ≡ u
      back x e = go (eqb x v) refl e
        where
          none : (new i ≡ v) ⊎ (length m.points ≤ new i) → u ≡ new i → ⊥
          none (inl a) b = ne (b ∙ a)
          none (inr a) b = omega arith

          go : (b : Bool) → eqb x v ≡ b → u ≡ cond b (new i) x → x ≡ u
          go true q r = absurd (none (new_or_v i) r)
          go false q r = sym r

  -- a vertex beside v that has one fan keeps it
  pub keep_fan : (u : ℕ) → u ≢ v → u < length m.points → OneFan m.faces u → OneFan out u
  keep_fan u ne hu fan i j hi hj ti tj =
      let hi' : i < length m.faces = rw out_length at hi in
      let hj' : j < length m.faces = rw out_length at hj in
      moved hi' (fan i j hi' hj' (had u i ne hu hi' ti) (had u j ne hu hj' tj))
    where
      moved : {k l : ℕ} → k < length m.faces → Chain (across_edge m.faces u) (length m.faces) k l → Chain (across_edge out u) (length out) k l
      moved h stay = stay
      moved h (link {j = k} {k = l} c t b) = link (moved h c) (keep_edge u k l ne (chain_end h c) b t) (rw out_length b)

  -- ---- after the split v and each copy have one fan

  -- the face of entry k at v
  at : ℕ → ℕ
  at k = get_or (entries_at m.faces v) k 0

  -- how many entries there are at v
  n : ℕ
  n = length (entries_at m.faces v)

  -- two entries are joined if their faces share an edge at v
  joined : ℕ → ℕ → Bool
  joined k l = share v (face m.faces (get_or (entries_at m.faces v) k 0)) (face m.faces (get_or (entries_at m.faces v) l 0))

  -- this goes both ways
  turns : (k l : ℕ) → T (joined k l) → T (joined l k)
  unfolding joined
  turns k l t = share_sym v (face m.faces (get_or (entries_at m.faces v) k 0)) (face m.faces (get_or (entries_at m.faces v) l 0)) t

  -- an entry is a face with the corner v
  at_v : (k : ℕ) → k < n → (at k < length m.faces) × Memᴰ v (corners (face m.faces (at k)))
  unfolding at n
  at_v k h = all_at (λ i. (i < length m.faces) × Memᴰ v (corners (face m.faces i))) (entries_at m.faces v) 0 k (entries_at_v m.faces v) h

  -- a corner t that is v or a copy comes from v
  from-v :
      (t i : ℕ) → (t ≡ v) ⊎ (length m.points ≤ t) → i < length m.faces → Memᴰ t (corners (face out i))
      → Memᴰ v (corners (face m.faces i)) × (new i ≡ t)
  from-v t i what h k =
      let w = old_corner i t h k in
      go w.0 w.1 (eqb w.0 v) refl w.2
    where
      no_way : (x : ℕ) → x ≢ v → x < length m.points → t ≡ x → (t ≡ v) ⊎ (length m.points ≤ t) → ⊥
      no_way x ne l e (inl a) = ne (sym e ∙ a)
      no_way x ne l e (inr a) = omega arith

      go : (x : ℕ) → Memᴰ x (corners (face m.faces i)) → (b : Bool) → eqb x v ≡ b → t ≡ cond b (new i) x
          → Memᴰ v (corners (face m.faces i)) × (new i ≡ t)
      go x mx true q e = (subst (λ y. Memᴰ y (corners (face m.faces i))) (eqb-true x v q) mx, sym e)
      go x mx false q e = absurd (no_way x (eqb-false x v q) (small i x h mx) e what)

  -- a chain of entries is a chain of faces across edges at their common number
  moved-chain :
      (t : ℕ) {k l : ℕ} → k < n → new (at k) ≡ t → Chain joined n k l
      → Chain (across_edge out t) (length out) (at k) (at l) × (new (at l) ≡ t)
  moved-chain t h e stay = (stay, e)
  moved-chain t h e (link {j = j} {k = l} c s b) =
      let r = moved-chain t h e c in
      let vj = at_v j (chain_end h c) in
      let vl = at_v l b in
      let same = same_new (at j) (at l) vj.0 vl.0 vj.1 vl.1 (unfold joined at in s) in
      let el : new (at l) ≡ t = sym same ∙ r.1 in
      (link r.0 (edge_at (at j) (at l) vj.0 vl.0 vj.1 vl.1 (unfold joined at in s) r.1 el) (rw out_length vl.0), el)
    where
      edge_at :
          (a b : ℕ) → a < length m.faces → b < length m.faces → Memᴰ v (corners (face m.faces a)) → Memᴰ v (corners (face m.faces b))
          → T (share v (face m.faces a) (face m.faces b)) → new a ≡ t → new b ≡ t → T (across_edge out t a b)
      edge_at a b ha hb va vb s ea eb =
          let w = share_elim v (face m.faces a) (face m.faces b) s in
          across_intro out t a b
          (subst (λ y. Memᴰ y (corners (face out a))) ea (new_corner a ha va))
          (subst (λ y. Memᴰ y (corners (face out b))) eb (new_corner b hb vb))
          (share_intro t (face out a) (face out b) w.0 (apart w.0 w.1 (small a w.0 ha w.2) (new_or_v a))
          (keep_corner a w.0 ha w.1 w.2) (keep_corner b w.0 hb w.1 w.3))
        where
          apart : (x : ℕ) → x ≢ v → x < length m.points → (new a ≡ v) ⊎ (length m.points ≤ new a) → x ≢ t
          apart x ne l (inl z) q = ne (q ∙ sym ea ∙ z)
          apart x ne l (inr z) q = absurd (omega arith)

  -- every entry is in a fan
  fan_of : (k : ℕ) → k < n → (g : List ℕ) × Memᴰ g (fans m.faces v) × T (has (at k) g)
  unfolding fans groups at n joined
  fan_of k h =
      let c = covered joined n turns k h in (
        map at (group joined n c.0),
        Memᴰ.map (map at) (Memᴰ.map (group joined n) (mem_filter (leads joined n) c.0 (below n) (mem_below c.0 n c.1) c.2)),
        mem_has (at k) (map at (group joined n c.0)) (Memᴰ.map at c.3),
      )

  -- every fan is the faces of a group of entries
  fan_group : (g : List ℕ) → Memᴰ g (fans m.faces v) → (l : ℕ) × (l < n) × (g ≡ map at (group joined n l))
  unfolding fans groups at n joined
  fan_group g k =
      let w = Memᴰ.of_map (map at) (map (group joined n) (filter (leads joined n) (below n))) k in
      let u = Memᴰ.of_map (group joined n) (filter (leads joined n) (below n)) w.1 in
      (u.0, below_mem u.0 n (mem_left (leads joined n) u.0 (below n) u.1).0, sym w.2 ∙ ap (map at) (sym u.2))

  -- two faces in one fan are joined by a chain of entries
  pub joined_in :
      (t i j : ℕ) (g : List ℕ) → Memᴰ g (fans m.faces v) → T (has i g) → T (has j g) → new i ≡ t
      → Chain (across_edge out t) (length out) i j
  joined_in t i j g mg ti tj e =
      let f = fan_group g mg in
      let a = Memᴰ.of_map at (group joined n f.0) (subst (λ l. Memᴰ i l) f.2 (has_mem i g ti)) in
      let b = Memᴰ.of_map at (group joined n f.0) (subst (λ l. Memᴰ j l) f.2 (has_mem j g tj)) in
      let c = chain_join (chain_flip joined n turns f.1 (group_chain joined n f.0 a.0 a.1)) (group_chain joined n f.0 b.0 b.1) in
      let r = moved-chain t (group_within joined n f.0 a.0 f.1 a.1) (ap new a.2 ∙ e) c in
      subst₂ (λ x y. Chain (across_edge out t) (length out) x y) a.2 b.2 r.0

  -- every face at v is in a fan
  face-fan :
      (i : ℕ) → i < length m.faces → Memᴰ v (corners (face m.faces i)) → (g : List ℕ) × Memᴰ g (fans m.faces v) × T (has i g)
  unfolding n at
  face-fan i h k =
      let e = entry_of m.faces v i h (mem_has v (corners (face m.faces i)) k) in
      let w = fan_of e.0 e.1 in
      (w.0, w.1, subst (λ y. T (has y w.0)) e.2 w.2)

  -- v and each copy have one fan
  pub one_fan : (t : ℕ) → (t ≡ v) ⊎ (length m.points ≤ t) → OneFan out t
  unfolding new
  one_fan t what i j hi hj ti tj =
      let hi' : i < length m.faces = rw out_length at hi in
      let hj' : j < length m.faces = rw out_length at hj in
      let fi = from-v t i what hi' (has_mem t (corners (face out i)) ti) in
      let fj = from-v t j what hj' (has_mem t (corners (face out j)) tj) in
      let w = one_of v (length m.points) i j hv (fans m.faces v) (fi.1 ∙ sym fj.1) (face-fan i hi' fi.0) (face-fan j hj' fj.0) in
      joined_in t i j w.0 w.1 w.2 w.3 fi.1
