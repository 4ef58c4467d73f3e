-- A split at v leaves the fans at every other point as they are. Assumes nothing.
use mathlib.Core.Path.{◌≡◌, refl, sym, ap, ◌∙◌, subst}
use mathlib.Core.Logic.{◌⊎◌, inl, inr, ◌≢◌}
use mathlib.Core.Bool.{Bool, true, false, cond}
use mathlib.Core.List.Memᴰ
use mathlib.Core.List.{List, map, map-map, Memᴰ}
use Prim.Native.Nat.{ℕ, ◌≤◌, ◌<◌}
use native.Mathlib.Omega.{arith}
use borrow.Author.Tests.{ne_eqb, eqb-true}
use lib.ListN.{length, get_or, drop}
use lib.Dec.{T, eqb, eqb→eq, ltb}
use Rattle.rules.specs.Lists.{below, filter, each, has}
use Rattle.rules.specs.Mesh.{Face, face, corners, renamed}
use Rattle.rules.specs.State.{State}
use Rattle.rules.specs.Groups.{groups}
use Rattle.rules.specs.Pass5.{entries_at, share, fans, split}
use Rattle.rule_laws.proofs.Tests.{both_ways}
use Rattle.rule_laws.proofs.Lists.{filter_map, get_or_map_in}
use Rattle.rule_laws.proofs.Rising.{All, all_at, all_imp, all_filter, all_each, all_map}
use Rattle.rule_laws.proofs.Members.{all_members}
use Rattle.rule_laws.proofs.Once.{Inside}
use Rattle.rule_laws.proofs.Splitting.{instead, target, face_map_below, length_map_below, split_is}
use Rattle.rule_laws.proofs.Fans.{across_intro, across_elim, keep_edge, share_elim, share_intro, target_new}
use Rattle.rule_laws.proofs.Fans as of-split
use Rattle.rule_laws.proofs.Pass5.{home, split_home}
use Rattle.splitting.proofs.Agreeing.{each_agree, on_below, groups_agree}

-- the entries at v are faces at v
pub entries_all : (fs : List Face) (v : ℕ) → All (λ i. (i < length fs) × Memᴰ v (corners (face fs i))) (entries_at fs v)
unfolding entries_at
entries_all fs v =
    all_each At (λ i. map (λ x. i) (filter (eqb v) (corners (face fs i)))) (below (length fs))
    (on_below (λ i. All At (map (λ x. i) (filter (eqb v) (corners (face fs i))))) (length fs)
    (λ i h.
    all_map At (λ x. i) (filter (eqb v) (corners (face fs i)))
    (all_imp (λ x. Memᴰ x (corners (face fs i)) × T (eqb v x)) (λ x. At i)
    (λ x w. (h, subst (λ y. Memᴰ y (corners (face fs i))) (sym (eqb→eq v x w.1)) w.0))
    (filter (eqb v) (corners (face fs i)))
    (all_filter (λ x. Memᴰ x (corners (face fs i))) (eqb v) (corners (face fs i)) (all_members (corners (face fs i)))))))
  where
    At : ℕ → Type 0
    At i = (i < length fs) × Memᴰ v (corners (face fs i))

-- another number is what it was, and no new one
same_test : (P u v t x : ℕ) → u ≢ v → u < P → (t ≡ v) ⊎ (P ≤ t) → eqb u (instead v t x) ≡ eqb u x
same_test P u v t x ne hu w = go (eqb x v) refl w
  where
    go : (b : Bool) → eqb x v ≡ b → (t ≡ v) ⊎ (P ≤ t) → eqb u (cond b t x) ≡ eqb u x
    go false e w = refl
    go true e (inl q) = ap (eqb u) (q ∙ sym (eqb-true x v e))
    go true e (inr l) = ne_eqb u t (λ q. omega arith) ∙ sym (ne_eqb u x (λ q. ne (q ∙ eqb-true x v e)))

module _ (m : State) (v u : ℕ) (inside : Inside (length m.points) m.faces) (hv : v < length m.points) (hu : u < length m.points) (ne : u ≢ v) where
  -- the faces before and after the split
  abbrev fs : List Face
  fs = m.faces

  -- the faces after the split
  abbrev out : List Face
  out = (split m v).faces

  -- the number of face i for v
  t : ℕ → ℕ
  t i = target v (length m.points) (drop 1 (fans m.faces v)) i

  -- all of them, in one formula
  out_is : out ≡ map (λ i. renamed (instead v (t i)) (face fs i)) (below (length fs))
  unfolding t
  out_is = split_is m v hv

  -- face i after the split
  out_at : (i : ℕ) → i < length fs → face out i ≡ renamed (instead v (t i)) (face fs i)
  out_at i h = ap (λ l. face l i) out_is ∙ face_map_below (λ k. renamed (instead v (t k)) (face fs k)) (length fs) i h

  -- they are as many as before
  long : length out ≡ length fs
  long = ap length out_is ∙ length_map_below (λ i. renamed (instead v (t i)) (face fs i)) (length fs)

  -- face i has as many entries at u
  entries_of : (i : ℕ) → i < length fs → map (λ x. i) (filter (eqb u) (corners (face out i))) ≡ map (λ x. i) (filter (eqb u) (corners (face fs i)))
  unfolding renamed t
  entries_of i h =
      ap (λ f. map (λ x. i) (filter (eqb u) (corners f))) (out_at i h)
      ∙ ap (map (λ x. i)) (filter_map (eqb u) (instead v (t i)) (corners (face fs i)))
      ∙ map-map (λ x. i) (instead v (t i)) (filter (λ x. eqb u (instead v (t i) x)) (corners (face fs i)))
      ∙ ap (λ p. map (λ x. i) (filter p (corners (face fs i)))) (λ k x. same_test (length m.points) u v (t i) x ne hu (target_new v (length m.points) (drop 1 (fans m.faces v)) i) k)

  -- the entries at u are the same
  pub entries_kept : entries_at out u ≡ entries_at fs u
  unfolding entries_at
  entries_kept =
      ap (λ n. each (λ i. map (λ x. i) (filter (eqb u) (corners (face out i)))) (below n)) long
      ∙ each_agree (λ i. map (λ x. i) (filter (eqb u) (corners (face out i)))) (λ i. map (λ x. i) (filter (eqb u) (corners (face fs i)))) (below (length fs))
      (on_below (λ i. map (λ x. i) (filter (eqb u) (corners (face out i))) ≡ map (λ x. i) (filter (eqb u) (corners (face fs i)))) (length fs) entries_of)

  -- each face is what the split made of it, sent home
  back_at : (i : ℕ) → i < length fs → face fs i ≡ renamed (home (length m.points) v) (face out i)
  unfolding face renamed
  back_at i h =
      ap (λ l. face l i) (sym (split_home m v inside hv))
      ∙ get_or_map_in (renamed (home (length m.points) v)) out i (record { a = 0; b = 0; c = 0; origin = 0 }) (record { a = 0; b = 0; c = 0; origin = 0 }) (rw long h)

  -- a corner after the split, sent home, is one before
  home_mem : (i x : ℕ) → i < length fs → Memᴰ x (corners (face out i)) → Memᴰ (home (length m.points) v x) (corners (face fs i))
  unfolding renamed
  home_mem i x h k = subst (λ f. Memᴰ (home (length m.points) v x) (corners f)) (sym (back_at i h)) (Memᴰ.map (home (length m.points) v) k)

  -- it is still another corner than u
  home_other : (x : ℕ) → x ≢ u → home (length m.points) v x ≢ u
  home_other x xu = go (ltb x (length m.points))
    where
      go : (b : Bool) → cond b x v ≢ u
      go true = xu
      go false = λ e. ne (sym e)

  -- faces at u share another corner after the split exactly if they did before
  share-kept :
      (i j : ℕ) → i < length fs → j < length fs → Memᴰ u (corners (face fs i)) → Memᴰ u (corners (face fs j))
      → share u (face out i) (face out j) ≡ share u (face fs i) (face fs j)
  share-kept i j hi hj mi mj = both_ways (share u (face out i) (face out j)) (share u (face fs i) (face fs j)) before after
    where
      before : T (share u (face out i) (face out j)) → T (share u (face fs i) (face fs j))
      before s =
          let w = share_elim u (face out i) (face out j) s in
          share_intro u (face fs i) (face fs j) (home (length m.points) v w.0) (home_other w.0 w.1) (home_mem i w.0 hi w.2) (home_mem j w.0 hj w.3)

      after : T (share u (face fs i) (face fs j)) → T (share u (face out i) (face out j))
      after s = unfold of-split.out in (across_elim (split m v).faces u i j (keep_edge m v inside hv u i j ne hi hj (across_intro m.faces u i j mi mj s))).2

  -- the fans at u are the same
  pub fans_kept : fans out u ≡ fans fs u
  unfolding fans
  fans_kept =
      ap (λ at. map (map (λ k. get_or at k 0)) (groups (λ k l. share u (face out (get_or at k 0)) (face out (get_or at l 0))) (length at))) entries_kept
      ∙ ap (map (map (λ k. get_or at k 0)))
      (groups_agree (λ k l. share u (face out (get_or at k 0)) (face out (get_or at l 0))) (λ k l. share u (face fs (get_or at k 0)) (face fs (get_or at l 0))) (length at)
      (λ k l hk hl. let a = is_at k hk in let b = is_at l hl in share-kept (get_or at k 0) (get_or at l 0) a.0 b.0 a.1 b.1))
    where
      at : List ℕ
      at = entries_at fs u

      is_at : (k : ℕ) → k < length at → (get_or at k 0 < length fs) × Memᴰ u (corners (face fs (get_or at k 0)))
      is_at k h = all_at (λ i. (i < length fs) × Memᴰ u (corners (face fs i))) (entries_at fs u) 0 k (entries_all fs u) h
