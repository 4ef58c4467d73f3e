-- What an edge call and a loop call answer fits in their stated rooms: at most 3F edges, as many loop vertices as boundary edges, no more loops.
-- Assumes nothing.
use mathlib.Core.Path.{◌≡◌, refl, sym, ap, ◌∙◌}
use mathlib.Core.Bool.{Bool, true, false, ◌&&◌, cond}
use mathlib.Core.List.Memᴰ
use mathlib.Core.List.{List, [], ◌∷◌, map, Memᴰ}
use Prim.Native.Nat.{ℕ, zero, suc, ◌*◌, ◌≤◌, ◌<◌, zero-le, suc-le-suc}
use native.Mathlib.Omega.{arith}
use lib.ListN.{length, take, length-append, length-map}
use lib.Dec.{eqb, eqb_refl}
use Rattle.rules.specs.Lists.{below, count, any, each}
use Rattle.rules.specs.Mesh.{Face}
use Rattle.rules.specs.Steps.{Step, step, steps, same, edge, users, entries, pairs, edges}
use Rattle.rules.specs.Refusal.{ok}
use Rattle.rules.specs.Edges.{face_edges, boundary, no8, loops, loop_vertices, loop_ends, both_ends}
use Rattle.rule_laws.proofs.Lists.{length_below, length_each}
use Rattle.rule_laws.proofs.Rising.{All}
use Rattle.rule_laws.proofs.Members.{all_in, any_mem, mem_left}
use Rattle.rule_laws.proofs.Counting.{below_once, count_all, count_le, count_map, count_parts, each_count, filter_le, some_count}
use Rattle.rule_laws.proofs.Takers.{later, entries_cons}
use Rattle.rule_laws.proofs.Once.{Inside, same_eq, same_is}
use Rattle.rule_laws.proofs.Next.{no8_simple}
use Rattle.rule_laws.proofs.Demand.{loop_steps}
use Rattle.rule_laws.proofs.Growing.{vertices, Closes}
use Rattle.rule_laws.proofs.Loops.{edges_of, to_loops, in_one_loop, loops_close}
use Rattle.rule_laws.proofs.InOut.{few_by}

-- ---- the unique edges

-- each pair is among the pairs at most once
pairs_once : (P : ℕ) (d : Step) → count (same d) (pairs P) ≤ 1
unfolding pairs
pairs_once P d =
    let l = each_count (same d) (eqb d.from) (λ x. map (λ y. step x y) (below P)) row (below P) in
    omega (arith, below_once d.from P)
  where
    row : (x : ℕ) → count (same d) (map (λ y. step x y) (below P)) ≤ cond (eqb d.from x) 1 0
    row x = rw (count_map (same d) (λ y. step x y) (below P)) (unfold same in go (eqb d.from x))
      where
        go : (b : Bool) → count (λ y. b && eqb d.to y) (below P) ≤ cond b 1 0
        go true = below_once d.to P
        go false = rw (count_all false (below P)) zero-le

-- three entries a face
length_entries : (fs : List Face) → length (entries fs) ≡ 3 * length fs
length_entries [] = unfold entries each below in refl
length_entries (f ∷ fs) =
    ap length (entries_cons f fs)
    ∙ (let h = length_entries fs in
    let l = length-map (entries fs) later in
    omega arith)

-- every unique edge is some entry's, so there are at most 3F
pub few_edges : (P : ℕ) (fs : List Face) → length (edges P fs) ≤ 3 * length fs
unfolding edges
few_edges P fs =
    let l = few_by (λ e. e) (edges P fs) (map (λ n. edge n.along) (entries fs)) once (λ s t e. e) from_entry in
    let m = length-map (entries fs) (λ n. edge n.along) in
    omega (arith, length_entries fs)
  where
    once : (d : Step) → count (same d) (edges P fs) ≤ 1
    once d = let c = count_parts (λ e. any (λ n. same e (edge n.along)) (entries fs)) (same d) (pairs P) in omega (arith, pairs_once P d)

    from_entry : (e : Step) → Memᴰ e (edges P fs) → Memᴰ e (map (λ n. edge n.along) (entries fs))
    from_entry e m =
        let w = any_mem (λ n. same e (edge n.along)) (entries fs) (mem_left (λ d. any (λ n. same d (edge n.along)) (entries fs)) e (pairs P) m).1 in
        Memᴰ.cast (same_is e (edge w.0.along) w.2) (Memᴰ.map (λ n. edge n.along) w.1)

-- ---- the loops

-- loops with a vertex each are no more than their vertices
few_loops : (b : List Step) (ls : List (List ℕ)) → All (Closes b) ls → length ls ≤ length (vertices ls)
unfolding each
few_loops b [] h = zero-le
few_loops b (l ∷ ls) h = let r = few_loops b ls h.1 in let a = length-append l (vertices ls) in omega (arith, h.0.0)

-- boundary edges are steps
few_boundary : (fs : List Face) → length (boundary fs) ≤ 3 * length fs
unfolding boundary
few_boundary fs =
    let l = filter_le (λ s. eqb (length (users fs (edge s))) 1) (each steps fs) in
    let m = length_each 3 steps (λ f. refl) fs in
    omega arith

-- what an edge call answers fits in its rooms
pub record EdgesFit (P : ℕ) (fs : List Face) : Type 0 where
  pub edges_fit : length (each both_ends (edges P fs)) ≤ 6 * length fs
  pub lengths_fit : length (edges P fs) ≤ 3 * length fs
  pub face_edges_fit : length (face_edges P fs) ≡ 3 * length fs

-- it does, whatever the faces are
pub edges_fit : (P : ℕ) (fs : List Face) → EdgesFit P fs
unfolding face_edges
edges_fit P fs =
    let e = few_edges P fs in
    record { edges_fit = omega (arith, length_each 2 both_ends (λ e. refl) (edges P fs)); lengths_fit = e; face_edges_fit = length_each 3 _ (λ f. refl) fs }

-- what a loop call answers fits in its rooms
pub record LoopsFit (P : ℕ) (fs : List Face) : Type 0 where
  pub loop_vertices_are : length (loop_vertices P fs) ≡ length (boundary fs)
  pub loop_vertices_fit : length (loop_vertices P fs) ≤ 3 * length fs
  pub loop_ends_fit : length (loop_ends P fs) ≤ length (loop_vertices P fs)

module _ (P : ℕ) (fs : List Face) (inside : Inside P fs) (ok8 : no8 P fs ≡ ok) where
  -- all loops' steps
  walked : List Step
  walked = each loop_steps (loops P fs)

  -- a step that is counted is a member
  same_mem : (s : Step) (xs : List Step) → 0 < count (same s) xs → Memᴰ s xs
  same_mem s xs h =
      let w = some_count (same s) xs h in
      Memᴰ.cast (same_is s w.0 w.2) w.1

  -- the loops' steps are boundary edges
  walked_in : (s : Step) → Memᴰ s walked → Memᴰ s (boundary fs)
  unfolding walked
  walked_in s m = all_in (λ t. Memᴰ t (boundary fs)) s walked (edges_of (boundary fs) (loops P fs) (loops_close P fs inside ok8)) m

  -- each is there once
  walked_once : (d : Step) → count (same d) walked ≤ 1
  walked_once d = go (count (same d) walked) refl
    where
      go : (n : ℕ) → count (same d) walked ≡ n → count (same d) walked ≤ 1
      go zero e = omega arith
      go (suc n) e = let z = in_one_loop P fs inside ok8 d (walked_in d (same_mem d walked (rw e (suc-le-suc zero-le)))) in (unfold walked in omega arith)

  -- a boundary edge is there once, since one begins at its beginning
  boundary_once : (d : Step) → count (same d) (boundary fs) ≤ 1
  boundary_once d =
      let l = count_le (same d) (λ s. eqb s.from d.from) (boundary fs) (λ s m t. rw (same_eq d s t).0 (eqb_refl s.from)) in
      omega (arith, (no8_simple P fs inside ok8).few d.from)

  -- the loops' steps are the boundary's edges, so they are as many
  as_many : length walked ≡ length (boundary fs)
  as_many =
      let a = few_by (λ s. s) walked (boundary fs) walked_once (λ s t e. e) walked_in in
      let b = few_by (λ s. s) (boundary fs) walked boundary_once (λ s t e. e) (λ s m. same_mem s walked (once s m)) in
      omega arith
    where
      once : (s : Step) → Memᴰ s (boundary fs) → 0 < count (same s) walked
      once s m = let z = in_one_loop P fs inside ok8 s m in (unfold walked in omega arith)

  -- a vertex for each step
  vertices_are : length (loop_vertices P fs) ≡ length (boundary fs)
  unfolding loop_vertices walked
  vertices_are = ap length (sym (to_loops (loops P fs))) ∙ length-map walked (λ s. s.to) ∙ as_many

  -- the whole answer
  pub loops_fit : LoopsFit P fs
  unfolding loop_ends loop_vertices
  loops_fit =
      let v = vertices_are in
      record {
        loop_vertices_are = v;
        loop_vertices_fit = omega (arith, few_boundary fs);
        loop_ends_fit =
            rw (length-map (below (length (loops P fs))) (λ k. length (each (λ l. l) (take (suc k) (loops P fs)))), length_below (length (loops P fs)))
            (few_loops (boundary fs) (loops P fs) (loops_close P fs inside ok8));
      }
