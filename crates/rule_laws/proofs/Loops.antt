-- On a simple boundary every loop closes along boundary edges, each boundary edge is in exactly one loop, once, and the loops' vertices are those of
-- the boundary. Assumes nothing.
use mathlib.Core.Path.{◌≡◌, refl, sym, ap, subst, ◌∙◌}
use mathlib.Core.Bool.{Bool, true, false, ◌&&◌, and-false}
use mathlib.Core.List.{List, [], map, Memᴰ}
use Prim.Native.Nat.{ℕ, ◌≤◌, ◌<◌}
use native.Mathlib.Omega.{arith}
use borrow.Author.Tests.{eqb-true, eq-eqb}
use lib.Dec.{eqb, eqb_refl}
use Rattle.rules.specs.Lists.{below, count, any, each, through}
use Rattle.rules.specs.Mesh.{Face}
use Rattle.rules.specs.Steps.{Step, same}
use Rattle.rules.specs.Refusal.{ok}
use Rattle.rules.specs.Edges.{boundary, no8, add_loop, loops, loop_vertices}
use Rattle.rule_laws.proofs.Lists.{each_same, map_each}
use Rattle.rule_laws.proofs.Rising.{All, all_imp, all_map, all_each}
use Rattle.rule_laws.proofs.Members.{all_in}
use Rattle.rule_laws.proofs.Counting.{count_agree, count_map, count_some, one_of_each}
use Rattle.rule_laws.proofs.Once.{Inside}
use Rattle.rule_laws.proofs.Next.{Simple, On, boundary_inside, no8_simple, same_end, end_on}
use Rattle.rule_laws.proofs.Demand.{loop_steps}
use Rattle.rule_laws.proofs.Along.{to_loop}
use Rattle.rule_laws.proofs.Growing.{vertices, Closes, Good, all_good}

-- the steps of loops that close are edges
pub edges_of : (b : List Step) (ls : List (List ℕ)) → All (Closes b) ls → All (λ t. Memᴰ t b) (each loop_steps ls)
edges_of b ls h = all_each (λ t. Memᴰ t b) loop_steps ls (all_imp (Closes b) (λ l. All (λ t. Memᴰ t b) (loop_steps l)) (λ l c. c.1) ls h)

-- the steps of all loops end at the loops' vertices
pub to_loops : (ls : List (List ℕ)) → map (λ s. s.to) (each loop_steps ls) ≡ each (λ l. l) ls
to_loops ls = map_each (λ s. s.to) loop_steps ls ∙ each_same (λ l. map (λ s. s.to) (loop_steps l)) (λ l. l) to_loop ls

module _ (b : List Step) (simple : Simple b) where
  -- of the boundary's edges, the one that ends where s does is s
  same_to : (s : Step) → Memᴰ s b → (t : Step) → Memᴰ t b → same s t ≡ eqb s.to t.to
  unfolding same
  same_to s m t k = go (eqb s.to t.to) refl
    where
      go : (x : Bool) → eqb s.to t.to ≡ x → eqb s.from t.from && x ≡ x
      go true e = rw (eq-eqb s.from t.from (ap (λ r. r.from) (same_end b simple s t m k (eqb-true s.to t.to e))))
      go false e = and-false (eqb s.from t.from)

  -- the steps that are s are those that end where s does; that vertex is in the loops once
  once_in : (P : ℕ) → ((s : Step) → Memᴰ s b → s.to < P) → (s : Step) → Memᴰ s b → count (same s) (each loop_steps (through (add_loop b) [] (below P))) ≡ 1
  once_in P inside s m =
      count_agree (same s) (λ t. eqb s.to t.to) (each loop_steps ls)
      (all_imp (λ t. Memᴰ t b) (λ t. same s t ≡ eqb s.to t.to) (same_to s m) (each loop_steps ls) (edges_of b ls good.closes))
      ∙ sym (count_map (eqb s.to) (λ t. t.to) (each loop_steps ls))
      ∙ ap (count (eqb s.to)) (to_loops ls)
      ∙ one
    where
      ls : List (List ℕ)
      ls = through (add_loop b) [] (below P)

      good : Good b P ls
      good = all_good b simple P

      one : count (eqb s.to) (vertices ls) ≡ 1
      one =
          let l = count_some (eqb s.to) s.to (vertices ls) (good.full s.to (end_on b simple s m) (inside s m)) (eqb_refl s.to) in
          omega (arith, good.once s.to)

module _ (P : ℕ) (fs : List Face) (inside : Inside P fs) (ok8 : no8 P fs ≡ ok) where
  -- each boundary edge is in exactly one loop, and there once
  pub in_one_loop : (s : Step) → Memᴰ s (boundary fs) → count (same s) (each loop_steps (loops P fs)) ≡ 1
  unfolding loops
  in_one_loop s m = once_in (boundary fs) (no8_simple P fs inside ok8) P (λ t k. (boundary_inside P fs inside t k).1) s m

  -- so one loop has it, and no other
  pub one_loop_has : (s : Step) → Memᴰ s (boundary fs) → count (λ l. any (same s) (loop_steps l)) (loops P fs) ≡ 1
  one_loop_has s m = one_of_each (same s) loop_steps (loops P fs) (in_one_loop s m)

  -- every loop closes: its steps are boundary edges
  pub loops_close : All (Closes (boundary fs)) (loops P fs)
  unfolding loops
  loops_close = (all_good (boundary fs) (no8_simple P fs inside ok8) P).closes

  -- no vertex is in two loops, or twice in one
  pub vertex_once : (v : ℕ) → count (eqb v) (loop_vertices P fs) ≤ 1
  unfolding loops loop_vertices
  vertex_once v = (all_good (boundary fs) (no8_simple P fs inside ok8) P).once v

  -- a vertex of a loop begins a boundary edge
  pub loops_on : (v : ℕ) → Memᴰ v (loop_vertices P fs) → On (boundary fs) v
  unfolding loop_vertices
  loops_on v m =
      let ls = loops P fs in
      all_in (On (boundary fs)) v (vertices ls)
      (subst (All (On (boundary fs))) (to_loops ls)
      (all_map (On (boundary fs)) (λ s. s.to) (each loop_steps ls)
      (all_imp (λ t. Memᴰ t (boundary fs)) (λ t. On (boundary fs) t.to) (end_on (boundary fs) (no8_simple P fs inside ok8)) (each loop_steps ls)
      (edges_of (boundary fs) ls loops_close))))
      m

  -- and a vertex that begins one is in a loop: the loops' vertices are those of the boundary
  pub on_loops : (v : ℕ) → On (boundary fs) v → Memᴰ v (loop_vertices P fs)
  unfolding loops loop_vertices
  on_loops v on =
      (all_good (boundary fs) (no8_simple P fs inside ok8) P).full v on (subst (λ u. u < P) on.2 (boundary_inside P fs inside on.0 on.1).0)
