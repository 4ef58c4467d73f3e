-- `split_rows::split_all` meets its contract. The invariant: the vertices passed are split. Assumes nothing.
use mathlib.Core.Path.{◌≡◌}
use mathlib.Core.List.{List}
use Prim.Native.Nat.{ℕ, ◌+◌, ◌-◌, ◌≤◌, ◌<◌}
use native.Mathlib.Omega.{arith}
use native.Mathlib.Numerals.{add-one}
use Rattle.rows.proofs.Regions.{only2_none, only2_both}
use Rattle.split_rows.specs.Rows.{VertexAsks, VertexGives, AllAsks, AllGives}
use Rattle.split_rows.specs.declared.Run.{Run}
use Rattle.split_rows.proofs.Vertices.{at_first}
use Rattle.split_rows.proofs.split_all.Invariants.{Inv}
use Rattle.split_rows.proofs.split_all.Goals as goal
use Rattle.split_rows.proofs.split_all.Invariants.{Turn}

begins : {w : List ℕ} {P m olds : ℕ} (q : AllAsks w P m olds) → Inv q w 0 P 0
begins q = record { at_most = omega arith; only = only2_none _ _ _ _ _; reached = at_first q.rows (omega (arith, q.long, q.behind)) (omega (arith, q.long, q.room)) }

module _ {w₀ : List ℕ} {P m olds : ℕ} (q : AllAsks w₀ P m olds) {w : List ℕ} {begin next v : ℕ} (i : Inv q w begin next v) (h : v < P) where
  turn : Turn P v
  turn = record { few = omega (arith, q.rows.few); here = h }

  abbrev vertex-ok : VertexAsks w P m olds v begin next
  vertex-ok = record { ys = q.ys; long = q.long; vertex = h; reached = i.reached }

  again : {w' : List ℕ} {r : Run} → VertexGives vertex-ok w' r → Inv q w' r.end r.next (v + 1)
  again g = record { at_most = omega arith; only = only2_both i.only g.only; reached = rw (add-one v) g.reached }

done : {w₀ : List ℕ} {P m olds : ℕ} (q : AllAsks w₀ P m olds) {w : List ℕ} {begin next v : ℕ} → Inv q w begin next v → P ≤ v → AllGives q w next
done {P = P} q {begin = begin} {v = v} i h =
    let e : v ≡ P = omega (arith, i.at_most) in
    record { only = i.only; begin = begin; reached = rw e at i.reached }

pub loop-v-init : goal.loop-v-init
loop-v-init c = λ q. begins q

pub split_vertex-r-requires : goal.split_vertex-r-requires
split_vertex-r-requires c = let q = c.requires in
    vertex-ok q (c.loop-v.invariant q) c.loop-v-test.true

pub loop-v-preserved : goal.loop-v-preserved
loop-v-preserved c = λ q.
    let i = c.loop-v.invariant q in
    let t = c.loop-v-test.true in
    again q i t (c.split_vertex-r.ensures (vertex-ok q i t))

pub shape_of-work : goal.shape_of-work
shape_of-work c = (c.loop-v.invariant c.requires).only.long

pub returns : goal.returns
returns c = λ q. done q (c.loop-v.invariant q) c.loop-v-test.false
