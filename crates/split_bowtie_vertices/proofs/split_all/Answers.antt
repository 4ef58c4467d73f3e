-- `split_bowtie_vertices::split_all` meets its contract. The invariant: the vertices passed are split, and counted. Assumes nothing.
use mathlib.Core.Path.{◌≡◌, refl, sym, ap, ◌∙◌}
use mathlib.Core.Bool.{cond}
use mathlib.Core.List.{List}
use Prim.Native.Nat.{ℕ, ◌+◌, ◌≤◌, ◌<◌}
use native.Mathlib.Omega.{arith}
use native.Mathlib.Numerals.{add-one}
use borrow.Author.Tests.{lt-ltb, le-ltb}
use lib.Dec.{ltb}
use lib.Ieee.{Float}
use Rattle.rows.proofs.Regions.{only_none, only_both}
use Rattle.rules.specs.Lists.{below, count, filter}
use Rattle.rules.specs.Mesh.{faces_of}
use Rattle.rule_laws.proofs.Lists.{count_below}
use Rattle.rule_laws.proofs.Counting.{count_below_le}
use Rattle.splitting.specs.Corners.{extras}
use Rattle.split_bowtie_vertices.specs.Splits.{VertexAsks, VertexGives, AllAsks, AllGives}
use Rattle.split_bowtie_vertices.specs.declared.Run.{Run}
use Rattle.split_bowtie_vertices.proofs.Vertices.{at_first}
use Rattle.split_bowtie_vertices.proofs.split_all.Invariants.{Inv}
use Rattle.split_bowtie_vertices.proofs.split_all.Goals as goal
use Rattle.split_bowtie_vertices.proofs.split_all.Invariants.{Turn}
use Rattle.split_bowtie_vertices.proofs.split_all.Goals.{then-next-r}
use Rattle.split_bowtie_vertices.proofs.split_all.Goals.{else-next-r}

begins : {ps : List Float} {w : List ℕ} {P n : ℕ} (q : AllAsks ps w P n) → Inv q ps w 0 P 0 0
begins {ps} {w} {P} {n} q =
    record {
      at_most = omega arith;
      only_work = only_none _ _ _;
      only_points = only_none _ _ _;
      counted = unfold count below filter in refl;
      reached = at_first q.rows (omega (arith, q.long, q.room));
    }

module _ {ps₀ : List Float} {w₀ : List ℕ} {P n : ℕ} (q : AllAsks ps₀ w₀ P n) {ps : List Float} {w : List ℕ} {begin next splits v : ℕ} (i : Inv q ps w begin next splits v) (h : v < P) where
  turn : Turn P v splits
  turn = record { few = omega (arith, q.rows.few); here = h; counted = omega (arith, i.counted, count_below_le (λ u. ltb 0 (extras (faces_of q.ys) u)) v) }

  abbrev vertex-ok : VertexAsks ps w P n v begin next
  vertex-ok = record { ys = q.ys; ps₀ = ps₀; long = q.long; vertex = h; reached = i.reached }

  module _ {ps' : List Float} {w' : List ℕ} {r : Run} (g : VertexGives vertex-ok ps' w' r) where
    again : {s : ℕ} → s ≡ splits + cond (ltb 0 (extras (faces_of q.ys) v)) 1 0 → Inv q ps' w' r.end r.next s (v + 1)
    again {s} e =
        record {
          at_most = omega arith;
          only_work = only_both i.only_work g.only_work;
          only_points = only_both i.only_points g.only_points;
          counted = rw (add-one v, count_below (λ u. ltb 0 (extras (faces_of q.ys) u)) v, ← i.counted) e;
          reached = rw (add-one v) g.reached;
        }

    more : next < r.next → Inv q ps' w' r.end r.next (splits + 1) (v + 1)
    more l = again (ap (λ b. splits + cond b 1 0) (sym (lt-ltb 0 (extras (faces_of q.ys) v) (omega (arith, g.added)))))

    none : r.next ≤ next → Inv q ps' w' r.end r.next splits (v + 1)
    none l = again ((let z : splits ≡ splits + 0 = omega arith in z) ∙ ap (λ b. splits + cond b 1 0) (sym (le-ltb 0 (extras (faces_of q.ys) v) (omega (arith, g.added)))))

done : {ps₀ : List Float} {w₀ : List ℕ} {P n : ℕ} (q : AllAsks ps₀ w₀ P n) {ps : List Float} {w : List ℕ} {begin next splits v : ℕ} → Inv q ps w begin next splits v → P ≤ v → AllGives q ps w (record { splits = splits; points = next })
done {P = P} q {begin = begin} {v = v} i h =
    let e : v ≡ P = omega (arith, i.at_most) in
    record { only_work = i.only_work; only_points = i.only_points; splits = rw e at i.counted; begin = begin; reached = rw e at i.reached }

pub loop-v-init : goal.loop-v-init
loop-v-init c = λ q. begins q

pub overflow_add-splits : goal.overflow_add-splits
overflow_add-splits c = omega (arith, turn c.requires (c.loop-v.invariant c.requires) c.loop-v-test.true)

pub loop-v-preserved : goal.loop-v-preserved
loop-v-preserved c = λ q.
    let i = c.loop-v.invariant q in
    let t = c.loop-v-test.true in
    let g = c.split_vertex-r.ensures (vertex-ok q i t) in
    elim c.if-next-r.branch [ then-next-r a ↦ rw a.splits-is (more q i t g a.if-next-r.true) | else-next-r a ↦ rw a.splits-is (none q i t g a.if-next-r.false) ]

pub returns : goal.returns
returns c = λ q. done q (c.loop-v.invariant q) c.loop-v-test.false
