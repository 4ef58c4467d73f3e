-- A face that repeats a corner steps both ways along its one edge, so where each directed edge is walked at most once it is alone at its corners, and no
-- boundary edge leads from them to another point. Assumes nothing.
use mathlib.Core.Path.{◌≡◌, refl, sym, ◌∙◌, subst, subst₂}
use mathlib.Core.Logic.{◌⊎◌, inl, inr, ◌≢◌}
use mathlib.Core.Bool.{Bool, true, false}
use mathlib.Core.List.Memᴰ
use mathlib.Core.List.{List, [], ◌∷◌, Memᴰ}
use Prim.Native.Nat.{ℕ, ◌<◌}
use native.Mathlib.Decide.{ℕ_discrete}
use lib.ListN.{length, get_or}
use lib.Dec.{T}
use Rattle.rules.specs.Lists.{each, has}
use Rattle.rules.specs.Mesh.{Face, face, corners}
use Rattle.rules.specs.Steps.{Step, step, steps, opposite}
use Rattle.rules.specs.Pass5.{share}
use Rattle.rules.specs.Edges.{boundary}
use Rattle.rule_laws.proofs.Demand.{Chain, stay, link, across_edge, OneFan, Distinct}
use Rattle.rule_laws.proofs.Members.{has_mem, mem_each, mem_each_of, mem_has, mem_index, mem_left, mem_three}
use Rattle.rule_laws.proofs.Once.{Once}
use Rattle.rule_laws.proofs.Fans.{share_elim, across_elim}
use Rattle.rule_laws.proofs.Pass6.{face_mem}
use Rattle.rule_laws.proofs.InOut.{once_steps, single_user, opposite_out}
use Rattle.rule_laws.proofs.Wedges.{one_face, step_ends, step_between}

-- two points are all its corners, and it steps from each to the other
pub record Folds (f : Face) : Type 0 where
  pub p : ℕ
  pub q : ℕ
  pub either : (x : ℕ) → Memᴰ x (corners f) → (x ≡ p) ⊎ (x ≡ q)
  pub out : Memᴰ (step p q) (steps f)
  pub back : Memᴰ (step q p) (steps f)

-- a face has three different corners, or it folds
folds : (f : Face) → Distinct f ⊎ Folds f
folds f = go (ℕ_discrete f.a f.b) (ℕ_discrete f.b f.c) (ℕ_discrete f.c f.a)
  where
    ab : Memᴰ (step f.a f.b) (steps f)
    ab = Memᴰ.head refl

    bc : Memᴰ (step f.b f.c) (steps f)
    bc = Memᴰ.tail (Memᴰ.head refl)

    ca : Memᴰ (step f.c f.a) (steps f)
    ca = Memᴰ.tail (Memᴰ.tail (Memᴰ.head refl))

    first_two : f.a ≡ f.b → (x : ℕ) → (x ≡ f.a) ⊎ ((x ≡ f.b) ⊎ (x ≡ f.c)) → (x ≡ f.a) ⊎ (x ≡ f.c)
    first_two e x (inl d) = inl d
    first_two e x (inr (inl d)) = inl (d ∙ sym e)
    first_two e x (inr (inr d)) = inr d

    last_two : f.b ≡ f.c → (x : ℕ) → (x ≡ f.a) ⊎ ((x ≡ f.b) ⊎ (x ≡ f.c)) → (x ≡ f.a) ⊎ (x ≡ f.b)
    last_two e x (inl d) = inl d
    last_two e x (inr (inl d)) = inr d
    last_two e x (inr (inr d)) = inr (d ∙ sym e)

    both_ends : f.c ≡ f.a → (x : ℕ) → (x ≡ f.a) ⊎ ((x ≡ f.b) ⊎ (x ≡ f.c)) → (x ≡ f.a) ⊎ (x ≡ f.b)
    both_ends e x (inl d) = inl d
    both_ends e x (inr (inl d)) = inr d
    both_ends e x (inr (inr d)) = inl (d ∙ e)

    go : Dec (f.a ≡ f.b) → Dec (f.b ≡ f.c) → Dec (f.c ≡ f.a) → Distinct f ⊎ Folds f
    go (yes e) y z =
        inr (record { p = f.a; q = f.c; either = λ x m. first_two e x (mem_three m); out = subst (λ v. Memᴰ (step v f.c) (steps f)) (sym e) bc; back = ca })
    go (no d) (yes e) z =
        inr (record { p = f.a; q = f.b; either = λ x m. last_two e x (mem_three m); out = ab; back = subst (λ v. Memᴰ (step v f.a) (steps f)) (sym e) ca })
    go (no d) (no k) (yes e) =
        inr (record { p = f.a; q = f.b; either = λ x m. both_ends e x (mem_three m); out = ab; back = subst (λ v. Memᴰ (step f.b v) (steps f)) e bc })
    go (no d) (no k) (no l) = inl (d, k, l)

-- all faces at v have three different corners, or one of them folds
pub at_v_or :
    (v : ℕ) (fs : List Face)
    → ((f : Face) → Memᴰ f fs → Memᴰ v (corners f) → Distinct f) ⊎ ((f : Face) × Memᴰ f fs × Memᴰ v (corners f) × Folds f)
at_v_or v [] = inl (λ f m c. absurd (Memᴰ.not-nil m))
at_v_or v (x ∷ fs) = go (folds x) (has v (corners x)) refl (at_v_or v fs)
  where
    AllDiffer : List Face → Type 0
    AllDiffer gs = (f : Face) → Memᴰ f gs → Memᴰ v (corners f) → Distinct f

    OneFolds : List Face → Type 0
    OneFolds gs = (f : Face) × Memᴰ f gs × Memᴰ v (corners f) × Folds f

    more : AllDiffer fs → (Memᴰ v (corners x) → Distinct x) → AllDiffer (x ∷ fs)
    more h d f m c = by_case (Memᴰ.cases_cons m)
      where
        by_case : (f ≡ x) ⊎ Memᴰ f fs → Distinct f
        by_case (inl e) = subst Distinct (sym e) (d (subst (λ g. Memᴰ v (corners g)) e c))
        by_case (inr k) = h f k c

    go : Distinct x ⊎ Folds x → (b : Bool) → has v (corners x) ≡ b → AllDiffer fs ⊎ OneFolds fs → AllDiffer (x ∷ fs) ⊎ OneFolds (x ∷ fs)
    go k b e (inr w) = inr (w.0, Memᴰ.tail w.1, w.2, w.3)
    go (inl d) b e (inl h) = inl (more h (λ c. d))
    go (inr k) true e (inl h) = inr (x, Memᴰ.head refl, has_mem v (corners x) (rw e tt), k)
    go (inr k) false e (inl h) = inl (more h (λ c. absurd (subst T e (mem_has v (corners x) c))))

module _ (fs : List Face) (once : Once fs) (v : ℕ) (fan : OneFan fs v) (f : Face) (mf : Memᴰ f fs) (cf : Memᴰ v (corners f)) (k : Folds f) where
  -- it steps from v to its other point, and back
  there_and_back : (x : ℕ) → Memᴰ x (corners f) → x ≢ v → Memᴰ (step v x) (steps f) × Memᴰ (step x v) (steps f)
  there_and_back x mx ne = go (k.either v cf) (k.either x mx)
    where
      In : ℕ → ℕ → Type 0
      In y z = Memᴰ (step y z) (steps f)

      go : (v ≡ k.p) ⊎ (v ≡ k.q) → (x ≡ k.p) ⊎ (x ≡ k.q) → In v x × In x v
      go (inl e) (inl d) = absurd (ne (d ∙ sym e))
      go (inl e) (inr d) = (subst₂ In (sym e) (sym d) k.out, subst₂ In (sym d) (sym e) k.back)
      go (inr e) (inl d) = (subst₂ In (sym e) (sym d) k.back, subst₂ In (sym d) (sym e) k.out)
      go (inr e) (inr d) = absurd (ne (d ∙ sym e))

  -- a face that shares an edge with it at v walks that edge one way, so it is the same face
  neighbour : (g : Face) → Memᴰ g fs → Memᴰ v (corners g) → T (share v f g) → g ≡ f
  neighbour g mg cg t = go w.0 (there_and_back w.0 w.2 w.1) (step_between g v w.0 w.1 cg w.3)
    where
      w : (x : ℕ) × (x ≢ v) × Memᴰ x (corners f) × Memᴰ x (corners g)
      w = share_elim v f g t

      go : (x : ℕ) → Memᴰ (step v x) (steps f) × Memᴰ (step x v) (steps f) → Memᴰ (step v x) (steps g) ⊎ Memᴰ (step x v) (steps g) → g ≡ f
      go x b (inl m) = one_face fs (step v x) (once_steps fs once (step v x)) g f mg mf m b.0
      go x b (inr m) = one_face fs (step x v) (once_steps fs once (step x v)) g f mg mf m b.1

  -- so is every face of a chain
  chain_same : {i j : ℕ} → face fs i ≡ f → Chain (across_edge fs v) (length fs) i j → face fs j ≡ f
  chain_same e stay = e
  chain_same e (link {j = j} {k = l} c t b) =
      let a = across_elim fs v j l t in
      neighbour (face fs l) (face_mem fs l b) a.1 (subst (λ g. T (share v g (face fs l))) (chain_same e c) a.2)

  -- and every face at v
  alone : (g : Face) → Memᴰ g fs → Memᴰ v (corners g) → g ≡ f
  unfolding face
  alone g mg cg = go (mem_index zero_face f fs mf) (mem_index zero_face g fs mg)
    where
      zero_face : Face
      zero_face = record { a = 0; b = 0; c = 0; origin = 0 }

      go : (i : ℕ) × (i < length fs) × (get_or fs i zero_face ≡ f) → (j : ℕ) × (j < length fs) × (get_or fs j zero_face ≡ g) → g ≡ f
      go (i, hi, ei) (j, hj, ej) =
          sym ej
          ∙ chain_same ei
          (fan i j hi hj (mem_has v (corners (face fs i)) (subst (λ x. Memᴰ v (corners x)) (sym ei) cf)) (mem_has v (corners (face fs j)) (subst (λ x. Memᴰ v (corners x)) (sym ej) cg)))

  -- a boundary edge from v ends at v: any other is walked both ways
  pub ends_at_v : (s : Step) → Memᴰ s (boundary fs) → s.from ≡ v → s.to ≡ v
  unfolding boundary
  ends_at_v s m e = go (ℕ_discrete s.to v)
    where
      w : (g : Face) × Memᴰ g fs × Memᴰ s (steps g)
      w = mem_each_of steps s fs (mem_left (single_user fs) s (each steps fs) m).0

      same_face : w.0 ≡ f
      same_face = alone w.0 w.1 (subst (λ x. Memᴰ x (corners w.0)) e (step_ends w.0 s w.2).0)

      end : Memᴰ s.to (corners f)
      end = subst (λ g. Memᴰ s.to (corners g)) same_face (step_ends w.0 s w.2).1

      go : Dec (s.to ≡ v) → s.to ≡ v
      go (yes d) = d
      go (no d) =
          absurd (opposite_out fs once s (λ z. d (sym z ∙ e)) m
          (unfold opposite in mem_each steps f (step s.to s.from) fs mf (subst (λ x. Memᴰ (step s.to x) (steps f)) (sym e) (there_and_back s.to end d).1)))
