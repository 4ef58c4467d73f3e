-- A face at a vertex: the corner ahead of it and the one behind it. A step that is walked at most once belongs to one face. Assumes nothing.
use mathlib.Core.Path.{◌≡◌, refl, sym, ap, ◌∙◌, subst, subst₂}
use mathlib.Core.Logic.{◌⊎◌, inl, inr, ◌≢◌}
use mathlib.Core.Bool.{Bool, true, false, cond}
use mathlib.Core.List.Memᴰ
use mathlib.Core.List.{List, [], ◌∷◌, Memᴰ}
use Prim.Native.Nat.{ℕ, ◌+◌, ◌≤◌, ◌<◌}
use native.Mathlib.Omega.{arith}
use borrow.Author.Tests.{eqb-true, eqb-false}
use lib.Dec.{eqb}
use Rattle.rules.specs.Lists.{count, each}
use Rattle.rules.specs.Mesh.{Face, corners}
use Rattle.rules.specs.Steps.{Step, step, steps, same}
use Rattle.rule_laws.proofs.Members.{mem_each, mem_three}
use Rattle.rule_laws.proofs.Counting.{count_append, count_some}
use Rattle.rule_laws.proofs.TwoUsers.{eq_same}
use Rattle.rule_laws.proofs.Demand.{Distinct}

-- ---- a face at v: the corner ahead of v and the one behind it

-- the corner after v
unfoldable pub ahead : ℕ → Face → ℕ
ahead v f = cond (eqb f.a v) f.b (cond (eqb f.b v) f.c f.a)

-- the corner before v
unfoldable pub behind : ℕ → Face → ℕ
behind v f = cond (eqb f.a v) f.c (cond (eqb f.b v) f.a f.b)

-- a face at v: it steps from v to p and from q to v, and nowhere else from v; p and q are its other corners
pub record Wedge (v p q : ℕ) (f : Face) : Type 0 where
  pub out : Memᴰ (step v p) (steps f)
  pub back : Memᴰ (step q v) (steps f)
  pub others : (x : ℕ) → Memᴰ x (corners f) → x ≢ v → (x ≡ p) ⊎ (x ≡ q)
  pub only_out : (s : Step) → Memᴰ s (steps f) → s.from ≡ v → s.to ≡ p

-- at its first corner
wedge_a : (f : Face) → Distinct f → Wedge f.a f.b f.c f
wedge_a f d =
    record {
      out = Memᴰ.head refl;
      back = Memᴰ.tail (Memᴰ.tail (Memᴰ.head refl));
      others = λ x m ne. other x ne (mem_three m);
      only_out = λ s m e. only s e (mem_three m);
    }
  where
    other : (x : ℕ) → x ≢ f.a → (x ≡ f.a) ⊎ ((x ≡ f.b) ⊎ (x ≡ f.c)) → (x ≡ f.b) ⊎ (x ≡ f.c)
    other x ne (inl e) = absurd (ne e)
    other x ne (inr r) = r

    only : (s : Step) → s.from ≡ f.a → (s ≡ step f.a f.b) ⊎ ((s ≡ step f.b f.c) ⊎ (s ≡ step f.c f.a)) → s.to ≡ f.b
    only s e (inl q) = ap (λ t. t.to) q
    only s e (inr (inl q)) = absurd (d.0 (sym e ∙ ap (λ t. t.from) q))
    only s e (inr (inr q)) = absurd (d.2 (sym (ap (λ t. t.from) q) ∙ e))

-- a face and the same one begun at its next corner
rot : Face → Face
rot f = record { a = f.b; b = f.c; c = f.a; origin = f.origin }

-- a list of three, turned
cycle : {A : Type 0} {x a b c : A} → Memᴰ x (a ∷ b ∷ c ∷ []) → Memᴰ x (b ∷ c ∷ a ∷ [])
cycle m = go (mem_three m)
  where
    go : {A : Type 0} {x a b c : A} → (x ≡ a) ⊎ ((x ≡ b) ⊎ (x ≡ c)) → Memᴰ x (b ∷ c ∷ a ∷ [])
    go (inl e) = Memᴰ.tail (Memᴰ.tail (Memᴰ.head e))
    go (inr (inl e)) = Memᴰ.head e
    go (inr (inr e)) = Memᴰ.tail (Memᴰ.head e)

-- so a wedge of the one is a wedge of the other
turned : {v p q : ℕ} {f : Face} → Wedge v p q (rot f) → Wedge v p q f
unfolding rot
turned w =
    record { out = cycle (cycle w.out); back = cycle (cycle w.back); others = λ x m. w.others x (cycle m); only_out = λ s m. w.only_out s (cycle m) }

-- at any of its corners
pub wedge : (v : ℕ) (f : Face) → Distinct f → Memᴰ v (corners f) → Wedge v (ahead v f) (behind v f) f
unfolding ahead behind rot
wedge v f d m = go (eqb f.a v) (eqb f.b v) refl refl (mem_three m)
  where
    go : (x y : Bool) → eqb f.a v ≡ x → eqb f.b v ≡ y → (v ≡ f.a) ⊎ ((v ≡ f.b) ⊎ (v ≡ f.c))
        → Wedge v (cond x f.b (cond y f.c f.a)) (cond x f.c (cond y f.a f.b)) f
    go true y p q r = subst (λ u. Wedge u f.b f.c f) (eqb-true f.a v p) (wedge_a f d)
    go false true p q r = subst (λ u. Wedge u f.c f.a f) (eqb-true f.b v q) (turned (wedge_a (rot f) (d.1, d.2, d.0)))
    go false false p q (inl e) = absurd (eqb-false f.a v p (sym e))
    go false false p q (inr (inl e)) = absurd (eqb-false f.b v q (sym e))
    go false false p q (inr (inr e)) = subst (λ u. Wedge u f.a f.b f) (sym e) (turned (turned (wedge_a (rot (rot f)) (d.2, d.0, d.1))))

-- ---- the steps of a face and its corners

-- a step leads from a corner to a corner
pub step_ends : (f : Face) (s : Step) → Memᴰ s (steps f) → Memᴰ s.from (corners f) × Memᴰ s.to (corners f)
step_ends f s m = go (mem_three m)
  where
    go : (s ≡ step f.a f.b) ⊎ ((s ≡ step f.b f.c) ⊎ (s ≡ step f.c f.a)) → Memᴰ s.from (corners f) × Memᴰ s.to (corners f)
    go (inl e) = (Memᴰ.head (ap (λ z. z.from) e), Memᴰ.tail (Memᴰ.head (ap (λ z. z.to) e)))
    go (inr (inl e)) = (Memᴰ.tail (Memᴰ.head (ap (λ z. z.from) e)), Memᴰ.tail (Memᴰ.tail (Memᴰ.head (ap (λ z. z.to) e))))
    go (inr (inr e)) = (Memᴰ.tail (Memᴰ.tail (Memᴰ.head (ap (λ z. z.from) e))), Memᴰ.head (ap (λ z. z.to) e))

-- between two different corners a face steps one way or the other
pub step_between :
    (f : Face) (v x : ℕ) → x ≢ v → Memᴰ v (corners f) → Memᴰ x (corners f) → Memᴰ (step v x) (steps f) ⊎ Memᴰ (step x v) (steps f)
step_between f v x ne mv mx = go (mem_three mv) (mem_three mx)
  where
    In : ℕ → ℕ → Type 0
    In y z = Memᴰ (step y z) (steps f)

    ab : In f.a f.b
    ab = Memᴰ.head refl

    bc : In f.b f.c
    bc = Memᴰ.tail (Memᴰ.head refl)

    ca : In f.c f.a
    ca = Memᴰ.tail (Memᴰ.tail (Memᴰ.head refl))

    go : (v ≡ f.a) ⊎ ((v ≡ f.b) ⊎ (v ≡ f.c)) → (x ≡ f.a) ⊎ ((x ≡ f.b) ⊎ (x ≡ f.c)) → In v x ⊎ In x v
    go (inl e) (inl d) = absurd (ne (d ∙ sym e))
    go (inl e) (inr (inl d)) = inl (subst₂ In (sym e) (sym d) ab)
    go (inl e) (inr (inr d)) = inr (subst₂ In (sym d) (sym e) ca)
    go (inr (inl e)) (inl d) = inr (subst₂ In (sym d) (sym e) ab)
    go (inr (inl e)) (inr (inl d)) = absurd (ne (d ∙ sym e))
    go (inr (inl e)) (inr (inr d)) = inl (subst₂ In (sym e) (sym d) bc)
    go (inr (inr e)) (inl d) = inl (subst₂ In (sym e) (sym d) ca)
    go (inr (inr e)) (inr (inl d)) = inr (subst₂ In (sym d) (sym e) bc)
    go (inr (inr e)) (inr (inr d)) = absurd (ne (d ∙ sym e))

-- ---- a step walked at most once belongs to one face

-- two faces that walk it would be counted twice
pub one_face : (fs : List Face) (d : Step) → count (same d) (each steps fs) ≤ 1 → (f g : Face) → Memᴰ f fs → Memᴰ g fs → Memᴰ d (steps f) → Memᴰ d (steps g) → f ≡ g
unfolding each
one_face [] d h f g mf mg df dg = absurd (Memᴰ.not-nil mf)
one_face (x ∷ fs) d h f g mf mg df dg = go (Memᴰ.cases_cons mf) (Memᴰ.cases_cons mg) (λ l. one_face fs d l f g)
  where
    both : count (same d) (steps x) + count (same d) (each steps fs) ≤ 1
    both = rw (count_append (same d) (steps x) (each steps fs)) at h

    here : (k : Face) → k ≡ x → Memᴰ d (steps k) → 0 < count (same d) (steps x)
    here k e m = count_some (same d) d (steps x) (subst (λ y. Memᴰ d (steps y)) e m) (eq_same d d refl refl)

    there : (k : Face) → Memᴰ k fs → Memᴰ d (steps k) → 0 < count (same d) (each steps fs)
    there k n m = count_some (same d) d (each steps fs) (mem_each steps k d fs n m) (eq_same d d refl refl)

    go : (f ≡ x) ⊎ Memᴰ f fs → (g ≡ x) ⊎ Memᴰ g fs
        → (count (same d) (each steps fs) ≤ 1 → Memᴰ f fs → Memᴰ g fs → Memᴰ d (steps f) → Memᴰ d (steps g) → f ≡ g) → f ≡ g
    go (inl p) (inl q) r = p ∙ sym q
    go (inl p) (inr q) r = absurd (omega (arith, both, here f p df, there g q dg))
    go (inr p) (inl q) r = absurd (omega (arith, both, here g q dg, there f p df))
    go (inr p) (inr q) r = r (omega (arith, both)) p q df dg
