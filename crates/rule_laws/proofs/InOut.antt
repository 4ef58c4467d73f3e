-- Where each directed edge is walked at most once, as many boundary edges begin at a vertex as end there: each face steps as often out of it as
-- into it, and the steps that are not boundary edges pair off with their opposites. Assumes nothing.
use mathlib.Core.Path.{◌≡◌, refl, sym, ap, ap₂, ◌∙◌}
use mathlib.Core.Logic.{◌⊎◌, inl, inr, ◌≢◌}
use mathlib.Core.Bool.{Bool, true, false, not, cond}
use mathlib.Core.List.Memᴰ
use mathlib.Core.List.{List, [], ◌∷◌, map, Memᴰ}
use Prim.Native.Nat.{ℕ, suc, ◌+◌, ◌≤◌, ◌<◌, min, max}
use native.Mathlib.Omega.{arith}
use native.Mathlib.Decide.{dec_le}
use borrow.Author.Tests.{eqb-false}
use lib.ListN.{length, get_or, length-append, length-map}
use lib.Dec.{T, eqb, eqb→eq}
use lib.Ieee.Bits.{is_false}
use Rattle.rules.specs.Lists.{below, filter, count, each}
use Rattle.rules.specs.Mesh.{Face}
use Rattle.rules.specs.Steps.{Step, step, steps, same, edge, opposite, entries, users, walkers}
use Rattle.rules.specs.Edges.{boundary, begins, ends}
use Rattle.rule_laws.proofs.Members.{mem_at, mem_filter, mem_left}
use Rattle.rule_laws.proofs.Counting.{count_append, count_or, count_parts, count_some, count_two, only_one, some_count}
use Rattle.rule_laws.proofs.Pigeons.{fewer}
use Rattle.rule_laws.proofs.Takers.{takers, takers_cons, users_takers, walkers_takers}
use Rattle.rule_laws.proofs.Once.{Once, same_eq, same_is}
use Rattle.rule_laws.proofs.TwoUsers.{eq_same}

-- ---- users and walkers are counts of steps

-- an entry for each step
takers_count : (p : Step → Bool) (fs : List Face) → length (takers p fs) ≡ count p (each steps fs)
unfolding each count
takers_count p [] = unfold entries each filter below in refl
takers_count p (f ∷ fs) =
    ap length (takers_cons p f fs)
    ∙ length-append (map (λ s. 0) (filter p (steps f))) (map suc (takers p fs))
    ∙ ap₂ (λ m n. m + n) (length-map (filter p (steps f)) (λ s. 0)) (length-map (takers p fs) suc ∙ takers_count p fs)
    ∙ sym (count_append p (steps f) (each steps fs))

-- walkers, as a count of steps
pub walkers_count : (fs : List Face) (d : Step) → length (walkers fs d) ≡ count (same d) (each steps fs)
walkers_count fs d = ap length (walkers_takers fs d) ∙ takers_count (same d) fs

-- Once, as a count of steps
pub once_steps : (fs : List Face) → Once fs → (d : Step) → count (same d) (each steps fs) ≤ 1
once_steps fs once d = rw (← walkers_count fs d) (once d)

-- users, as a count of steps
pub users_count : (fs : List Face) (e : Step) → length (users fs e) ≡ count (λ s. same e (edge s)) (each steps fs)
users_count fs e = ap length (users_takers fs e) ∙ takers_count (λ s. same e (edge s)) fs

-- ---- an edge and its opposite

-- both ways are one edge
pub edge_opposite : (s : Step) → edge (opposite s) ≡ edge s
unfolding edge opposite
edge_opposite s = λ i. step (low i) (high i)
  where
    low : min s.to s.from ≡ min s.from s.to
    low = omega arith

    high : max s.to s.from ≡ max s.from s.to
    high = omega arith

-- opposite goes back
opposite_back : (s t : Step) → opposite s ≡ opposite t → s ≡ t
unfolding opposite
opposite_back s t e = λ i. step (e i).to (e i).from

-- steps along the same edge go the same way or the opposite way
pub either_way : (s t : Step) → T (same (edge s) (edge t)) → T (same s t) ⊎ T (same (opposite s) t)
unfolding edge opposite
either_way s t h = go (dec_le s.from s.to) (dec_le t.from t.to) (same_eq (edge s) (edge t) h)
  where
    go : Dec (s.from ≤ s.to) → Dec (t.from ≤ t.to) → (min s.from s.to ≡ min t.from t.to) × (max s.from s.to ≡ max t.from t.to)
        → T (same s t) ⊎ T (same (opposite s) t)
    go (yes k) (yes l) q = inl (eq_same s t (omega arith) (omega arith))
    go (yes k) (no l) q = inr (eq_same (opposite s) t (omega arith) (omega arith))
    go (no k) (yes l) q = inr (eq_same (opposite s) t (omega arith) (omega arith))
    go (no k) (no l) q = inl (eq_same s t (omega arith) (omega arith))

-- whether a step is a boundary edge
abbrev pub single_user : List Face → Step → Bool
single_user fs s = eqb (length (users fs (edge s))) 1

module _ (fs : List Face) (once : Once fs) where
  -- a step that is no boundary edge is walked the opposite way too
  opposite_in : (s : Step) → Memᴰ s (each steps fs) → single_user fs s ≡ false → Memᴰ (opposite s) (each steps fs)
  unfolding count
  opposite_in s m e =
      let u = users_count fs (edge s) in
      let some = count_some (λ t. same (edge s) (edge t)) s (each steps fs) m (eq_same (edge s) (edge s) refl refl) in
      let ne = eqb-false (length (users fs (edge s))) 1 e in
      let l = count_or (λ t. same (edge s) (edge t)) (same s) (same (opposite s)) (either_way s) (each steps fs) in
      let o = once_steps fs once s in
      let w = some_count (same (opposite s)) (each steps fs) (omega arith) in
      Memᴰ.cast (same_is (opposite s) w.0 w.2) w.1

  -- a boundary edge is not walked the opposite way
  pub opposite_out : (s : Step) → s.from ≢ s.to → Memᴰ s (boundary fs) → Memᴰ (opposite s) (each steps fs) → ⊥
  unfolding boundary opposite
  opposite_out s ne m k =
      let w = mem_left (single_user fs) s (each steps fs) m in
      let u = users_count fs (edge s) in
      let n = eqb→eq (length (users fs (edge s))) 1 w.1 in
      ne (ap (λ t. t.from)
      (only_one (λ t. same (edge s) (edge t)) s (opposite s) (each steps fs) (omega arith) w.0 k
      (eq_same (edge s) (edge s) refl refl) (rw (edge_opposite s) (eq_same (edge s) (edge s) refl refl))))

-- steps that occur once each and go to different members of ys are at most as many as those
pub few_by :
    {B : Type 0} (g : Step → B) (xs : List Step) (ys : List B) → ((d : Step) → count (same d) xs ≤ 1) → ((s t : Step) → g s ≡ g t → s ≡ t)
    → ((s : Step) → Memᴰ s xs → Memᴰ (g s) ys) → length xs ≤ length ys
few_by g xs ys few injective to =
    fewer (λ k. g (at k)) (length xs) ys (λ k l. to (at k) (mem_at xs k (step 0 0) l)) (λ k l kl h e. apart k l kl h (injective (at k) (at l) e))
  where
    at : ℕ → Step
    at k = get_or xs k (step 0 0)

    apart : (k l : ℕ) → k < l → l < length xs → at k ≡ at l → ⊥
    apart k l kl h e =
        let two = count_two (same (at k)) xs (step 0 0) k l kl h (eq_same (at k) (at k) refl refl) (eq_same (at k) (at l) (ap (λ s. s.from) e) (ap (λ s. s.to) e)) in
        omega (arith, few (at k))

module _ (fs : List Face) (once : Once fs) where
  -- the steps that are no boundary edges
  inner : List Step
  inner = filter (λ s. not (single_user fs s)) (each steps fs)

  -- opposites pair off the steps that are no boundary edges
  paired : (p q : Step → Bool) → ((s : Step) → T (p s) → T (q (opposite s))) → count p inner ≤ count q inner
  unfolding count inner
  paired p q turn = few_by opposite xs (filter q inner) few opposite_back back
    where
      xs : List Step
      xs = filter p inner

      back : (s : Step) → Memᴰ s xs → Memᴰ (opposite s) (filter q inner)
      back s m =
          let w = mem_left p s inner m in
          let r = mem_left (λ t. not (single_user fs t)) s (each steps fs) w.0 in
          mem_filter q (opposite s) inner
          (mem_filter (λ t. not (single_user fs t)) (opposite s) (each steps fs) (opposite_in fs once s r.0 (is_false (single_user fs s) r.1)) (rw (edge_opposite s) r.1))
          (turn s w.1)

      few : (d : Step) → count (same d) xs ≤ 1
      few d =
          let a = count_parts p (same d) inner in
          let b = count_parts (λ s. not (single_user fs s)) (same d) (each steps fs) in
          let o = once_steps fs once d in
          omega arith

-- each face steps as often out of v as into it
even_face : (v : ℕ) (f : Face) → count (λ s. eqb s.from v) (steps f) ≡ count (λ s. eqb s.to v) (steps f)
unfolding count filter
even_face v f = go (eqb f.a v) (eqb f.b v) (eqb f.c v)
  where
    ab : Step
    ab = step f.a f.b

    bc : Step
    bc = step f.b f.c

    ca : Step
    ca = step f.c f.a

    go : (x y z : Bool)
        → length (cond x (ab ∷ cond y (bc ∷ cond z (ca ∷ []) []) (cond z (ca ∷ []) [])) (cond y (bc ∷ cond z (ca ∷ []) []) (cond z (ca ∷ []) [])))
        ≡ length (cond y (ab ∷ cond z (bc ∷ cond x (ca ∷ []) []) (cond x (ca ∷ []) [])) (cond z (bc ∷ cond x (ca ∷ []) []) (cond x (ca ∷ []) [])))
    go true true true = refl
    go true true false = refl
    go true false true = refl
    go true false false = refl
    go false true true = refl
    go false true false = refl
    go false false true = refl
    go false false false = refl

-- so do all faces
even_steps : (v : ℕ) (fs : List Face) → count (λ s. eqb s.from v) (each steps fs) ≡ count (λ s. eqb s.to v) (each steps fs)
unfolding each
even_steps v [] = unfold count filter in refl
even_steps v (f ∷ fs) =
    count_append (λ s. eqb s.from v) (steps f) (each steps fs)
    ∙ ap₂ (λ m n. m + n) (even_face v f) (even_steps v fs)
    ∙ sym (count_append (λ s. eqb s.to v) (steps f) (each steps fs))

-- as many boundary edges begin at a vertex as end there
pub in_is_out : (fs : List Face) → Once fs → (v : ℕ) → begins fs v ≡ ends fs v
unfolding begins ends boundary inner
in_is_out fs once v =
    let a = count_parts (single_user fs) (λ s. eqb s.from v) (each steps fs) in
    let b = count_parts (single_user fs) (λ s. eqb s.to v) (each steps fs) in
    let e = even_steps v fs in
    let k = paired fs once (λ s. eqb s.from v) (λ s. eqb s.to v) (λ s t. unfold opposite in t) in
    let l = paired fs once (λ s. eqb s.to v) (λ s. eqb s.from v) (λ s t. unfold opposite in t) in
    omega arith
