-- At a vertex whose faces form one fan at most one boundary edge begins. From a face whose step out of v is a boundary edge, every face of the
-- fan leads back to it, from the corner ahead to the face that has it behind; a second such face leads nowhere, so it is the same. Assumes nothing.
use mathlib.Core.Path.{◌≡◌, refl, sym, ap, ◌∙◌, subst}
use mathlib.Core.Logic.{◌⊎◌, inl, inr, ◌≢◌}
use mathlib.Core.List.Memᴰ
use mathlib.Core.List.{List, Memᴰ}
use Prim.Native.Nat.{ℕ, zero, suc, ◌≤◌, ◌<◌, suc-le-suc, zero-le}
use native.Mathlib.Omega.{arith}
use lib.ListN.{length, get_or}
use lib.Dec.{T, eqb, eqb→eq}
use Rattle.rules.specs.Lists.{count, each}
use Rattle.rules.specs.Mesh.{Face, face, corners}
use Rattle.rules.specs.Steps.{Step, step, steps, same, opposite}
use Rattle.rules.specs.Pass5.{share}
use Rattle.rules.specs.Edges.{boundary, begins}
use Rattle.rule_laws.proofs.Members.{mem_each, mem_each_of, mem_has, mem_index, mem_left, mem_three}
use Rattle.rule_laws.proofs.Counting.{count_le, count_parts, some_count}
use Rattle.rule_laws.proofs.Demand.{Chain, stay, link, across_edge, OneFan, Distinct}
use Rattle.rule_laws.proofs.Once.{Once}
use Rattle.rule_laws.proofs.TwoUsers.{eq_same}
use Rattle.rule_laws.proofs.Fans.{share_elim, across_elim}
use Rattle.rule_laws.proofs.Pass6.{face_mem}
use Rattle.rule_laws.proofs.InOut.{once_steps, single_user, opposite_out}
use Rattle.rule_laws.proofs.Wedges.{ahead, behind, Wedge, wedge, step_ends, one_face}
use Rattle.rule_laws.proofs.Folded.{Folds, at_v_or, ends_at_v}

-- ---- around the fan

-- k leads to f: from the corner ahead to the face that has it behind, and so on
data Leads (fs : List Face) (v : ℕ) (f : Face) : Face → Type 0 where
  here : {k : Face} → k ≡ f → Leads fs v f k
  onward : {k : Face} (g : Face) → Memᴰ g fs → Memᴰ v (corners g) → ahead v k ≡ behind v g → Leads fs v f g → Leads fs v f k

module _ (fs : List Face) (once : Once fs) (v : ℕ) (distinct : (f : Face) → Memᴰ f fs → Memᴰ v (corners f) → Distinct f) where
  -- every face at v has its wedge
  wedge_in : (f : Face) → Memᴰ f fs → Memᴰ v (corners f) → Wedge v (ahead v f) (behind v f) f
  wedge_in f m c = wedge v f (distinct f m c) c

  -- no face goes on from f
  abbrev Last : Face → Type 0
  Last f = (g : Face) → Memᴰ g fs → Memᴰ v (corners g) → ahead v f ≡ behind v g → ⊥

  -- the corner behind tells the face
  same_behind : (f g : Face) → Memᴰ f fs → Memᴰ g fs → Memᴰ v (corners f) → Memᴰ v (corners g) → behind v f ≡ behind v g → f ≡ g
  same_behind f g mf mg cf cg e =
      one_face fs (step (behind v f) v) (once_steps fs once (step (behind v f) v)) f g mf mg (wedge_in f mf cf).back
      (subst (λ x. Memᴰ (step x v) (steps g)) (sym e) (wedge_in g mg cg).back)

  -- the corner ahead tells the face
  same_ahead : (f g : Face) → Memᴰ f fs → Memᴰ g fs → Memᴰ v (corners f) → Memᴰ v (corners g) → ahead v f ≡ ahead v g → f ≡ g
  same_ahead f g mf mg cf cg e =
      one_face fs (step v (ahead v f)) (once_steps fs once (step v (ahead v f))) f g mf mg (wedge_in f mf cf).out
      (subst (λ x. Memᴰ (step v x) (steps g)) (sym e) (wedge_in g mg cg).out)

  module _ (f : Face) (last : Last f) where
    -- a neighbour of a face that leads to f leads to f
    leads-on :
        (k l : Face) → Memᴰ k fs → Memᴰ l fs → Memᴰ v (corners k) → Memᴰ v (corners l) → T (share v k l) → Leads fs v f k → Leads fs v f l
    leads-on k l mk ml ck cl t lead =
        let w = share_elim v k l t in
        go w.0 ((wedge_in k mk ck).others w.0 w.2 w.1) ((wedge_in l ml cl).others w.0 w.3 w.1)
      where
        follow : ahead v k ≡ behind v l → Leads fs v f k → Leads fs v f l
        follow e (here q) = absurd (last l ml cl (sym (ap (ahead v) q) ∙ e))
        follow e (onward g mg cg q r) = subst (Leads fs v f) (same_behind g l mg ml cg cl (sym q ∙ e)) r

        go : (x : ℕ) → (x ≡ ahead v k) ⊎ (x ≡ behind v k) → (x ≡ ahead v l) ⊎ (x ≡ behind v l) → Leads fs v f l
        go x (inl p) (inl q) = subst (Leads fs v f) (same_ahead k l mk ml ck cl (sym p ∙ q)) lead
        go x (inl p) (inr q) = follow (sym p ∙ q) lead
        go x (inr p) (inl q) = onward k mk ck (sym q ∙ p) lead
        go x (inr p) (inr q) = subst (Leads fs v f) (same_behind k l mk ml ck cl (sym p ∙ q)) lead

    -- so every face of a chain from f does
    leads_all : {i k : ℕ} → i < length fs → face fs i ≡ f → Chain (across_edge fs v) (length fs) i k → (k < length fs) × Leads fs v f (face fs k)
    leads_all h e stay = (h, here e)
    leads_all h e (link {j = j} {k = k} c t b) =
        let r = leads_all h e c in
        let w = across_elim fs v j k t in
        (b, leads-on (face fs j) (face fs k) (face_mem fs j r.0) (face_mem fs k b) w.0 w.1 w.2 r.1)

    -- so f is the only last one of the fan
    only_last : OneFan fs v → Memᴰ f fs → Memᴰ v (corners f) → (g : Face) → Memᴰ g fs → Memᴰ v (corners g) → Last g → g ≡ f
    only_last fan mf cf g mg cg stop = go (mem_index zero_face f fs mf) (mem_index zero_face g fs mg)
      where
        zero_face : Face
        zero_face = record { a = 0; b = 0; c = 0; origin = 0 }

        end : Leads fs v f g → g ≡ f
        end (here e) = e
        end (onward k mk ck e r) = absurd (stop k mk ck e)

        go : (i : ℕ) × (i < length fs) × (get_or fs i zero_face ≡ f) → (j : ℕ) × (j < length fs) × (get_or fs j zero_face ≡ g) → g ≡ f
        go (i, hi, ei) (j, hj, ej) =
            end (subst (Leads fs v f) at_j
            (leads_all hi at_i
            (fan i j hi hj (mem_has v (corners (face fs i)) (subst (λ x. Memᴰ v (corners x)) (sym at_i) cf)) (mem_has v (corners (face fs j)) (subst (λ x. Memᴰ v (corners x)) (sym at_j) cg)))).1)
          where
            at_i : face fs i ≡ f
            at_i = unfold face in ei

            at_j : face fs j ≡ g
            at_j = unfold face in ej

  -- ---- boundary edges from v

  -- the face of a boundary edge from v is a last one
  abbrev From : Step → Type 0
  From s = (f : Face) × Memᴰ f fs × Memᴰ v (corners f) × Last f × (s.to ≡ ahead v f)

  -- a face that goes on would walk the edge the opposite way
  edge_last : (s : Step) → Memᴰ s (boundary fs) → s.from ≡ v → From s
  unfolding boundary
  edge_last s m e =
      let w = mem_each_of steps s fs (mem_left (single_user fs) s (each steps fs) m).0 in
      let f = w.0 in
      let c = corner f w.2 in
      let to = (wedge_in f w.1 c).only_out s w.2 e in
      let apart = differ f (distinct f w.1 c) (mem_three w.2) in (
        f,
        w.1,
        c,
        (λ g mg cg q.
            opposite_out fs once s apart m
            (unfold opposite in mem_each steps g (step s.to s.from) fs mg (Memᴰ.cast (λ i. step ((to ∙ q) i) (e i)) (wedge_in g mg cg).back))),
        to,
      )
    where
      corner : (f : Face) → Memᴰ s (steps f) → Memᴰ v (corners f)
      corner f k = subst (λ x. Memᴰ x (corners f)) e (step_ends f s k).0

      differ : (f : Face) → Distinct f → (s ≡ step f.a f.b) ⊎ ((s ≡ step f.b f.c) ⊎ (s ≡ step f.c f.a)) → s.from ≢ s.to
      differ f d (inl q) z = d.0 (sym (ap (λ t. t.from) q) ∙ z ∙ ap (λ t. t.to) q)
      differ f d (inr (inl q)) z = d.1 (sym (ap (λ t. t.from) q) ∙ z ∙ ap (λ t. t.to) q)
      differ f d (inr (inr q)) z = d.2 (sym (ap (λ t. t.from) q) ∙ z ∙ ap (λ t. t.to) q)

  -- two boundary edges from v end at the same corner
  one_edge : OneFan fs v → (s t : Step) → Memᴰ s (boundary fs) → Memᴰ t (boundary fs) → s.from ≡ v → t.from ≡ v → s.to ≡ t.to
  one_edge fan s t ms mt es et =
      let f = edge_last s ms es in
      let g = edge_last t mt et in
      f.4 ∙ sym (ap (ahead v) (only_last f.0 f.3 fan f.1 f.2 g.0 g.1 g.2 g.3)) ∙ sym g.4

module _ (fs : List Face) (once : Once fs) (v : ℕ) where
  -- boundary edges from v that end at one point are one edge, which is there once
  one_end : ((s t : Step) → Memᴰ s (boundary fs) → Memᴰ t (boundary fs) → s.from ≡ v → t.from ≡ v → s.to ≡ t.to) → begins fs v ≤ 1
  unfolding begins
  one_end ends = go (count (λ s. eqb s.from v) (boundary fs)) refl
    where
      b : List Step
      b = boundary fs

      few : (d : Step) → count (same d) b ≤ 1
      few d = let p = count_parts (single_user fs) (same d) (each steps fs) in let o = once_steps fs once d in (unfold boundary in omega arith)

      go : (n : ℕ) → count (λ s. eqb s.from v) b ≡ n → count (λ s. eqb s.from v) b ≤ 1
      go zero e = omega arith
      go (suc n) e =
          let w = some_count (λ s. eqb s.from v) b (rw e (suc-le-suc zero-le)) in
          let es = eqb→eq w.0.from v w.2 in
          let l = count_le (λ s. eqb s.from v) (same w.0) b
          (λ t m q. let et = eqb→eq t.from v q in eq_same w.0 t (es ∙ sym et) (ends w.0 t w.1 m es et)) in
          omega (arith, few w.0)

  -- so at most one begins at v, whether or not a face there repeats a corner
  pub one_out : OneFan fs v → begins fs v ≤ 1
  one_out fan = go (at_v_or v fs)
    where
      go : ((f : Face) → Memᴰ f fs → Memᴰ v (corners f) → Distinct f) ⊎ ((f : Face) × Memᴰ f fs × Memᴰ v (corners f) × Folds f) → begins fs v ≤ 1
      go (inl d) = one_end (one_edge fs once v d fan)
      go (inr w) =
          let at-v = ends_at_v fs once v fan w.0 w.1 w.2 w.3 in
          one_end (λ s t ms mt es et. at-v s ms es ∙ sym (at-v t mt et))
