-- `split_rows::split_vertex` meets its contract. Assumes nothing.
use mathlib.Core.Path.{sym, subst}
use mathlib.Core.List.{List}
use Prim.Native.Nat.{ℕ, ◌+◌, ◌*◌, ◌-◌, ◌≤◌}
use native.Mathlib.Omega.{arith}
use lib.ListN.{length}
use Rattle.rows.specs.Region.{Only, Only2, Filled}
use Rattle.corner_numbers.specs.Numbers.{EndAsks, EndGives, RunAsks, RunGives}
use Rattle.split_rows.specs.Rows.{VertexAsks, VertexGives}
use Rattle.split_rows.proofs.Vertices.{Bounds, bounds, onwards, only_both_rows}
use Rattle.split_rows.proofs.Vertices as vertices
use Rattle.split_rows.proofs.split_vertex.Goals as goal

module _ {w : List ℕ} {P m olds v begin next : ℕ} (q : VertexAsks w P m olds v begin next) where
  end_ok : EndAsks w (12 * m + 2 + P) begin m
  end_ok = subst (λ k. EndAsks w (12 * k + 2 + P) begin k) (sym q.long) (vertices.end_ok q.vertex q.reached)

  -- the run is found
  module _ {end : ℕ} (e : EndGives w (12 * m + 2 + P) begin m v end) where
    found : EndGives w (12 * length q.ys + 2 + P) begin (length q.ys) v end
    found = subst (λ k. EndGives w (12 * k + 2 + P) begin k v end) q.long e

    run_ok : RunAsks w (12 * m + 2 + P + begin) (end - begin) (10 * m + 2 + P) (13 * m + 2 + P) m v next
    run_ok = subst (λ k. RunAsks w (12 * k + 2 + P + begin) (end - begin) (10 * k + 2 + P) (13 * k + 2 + P) k v next) (sym q.long) (vertices.run_ok q.vertex q.reached found)

    -- its groups are numbered
    module _ {w' : List ℕ} {free : ℕ} (g : RunGives w (12 * m + 2 + P + begin) (end - begin) (10 * m + 2 + P) (13 * m + 2 + P) m v next w' free) where
      given : RunGives w (12 * length q.ys + 2 + P + begin) (end - begin) (10 * length q.ys + 2 + P) (13 * length q.ys + 2 + P) (length q.ys) v next w' free
      given = subst (λ k. RunGives w (12 * k + 2 + P + begin) (end - begin) (10 * k + 2 + P) (13 * k + 2 + P) k v next w' free) q.long g

      limits : Bounds q.vertex q.reached found given
      limits = bounds q.vertex q.reached found given

      fill_ok : olds + (next - P) + (free - next) ≤ length w'
      fill_ok = omega (arith, limits)

      -- and the old points stand
      module _ {w'' : List ℕ} (o : Only (olds + (next - P)) (free - next) w' w'') (f : Filled (olds + (next - P)) (free - next) v w'') where
        done : VertexGives q w'' (record { end = end; next = free })
        done =
            record {
              only = subst (λ k. Only2 (13 * k + 2 + P) k olds k w w'') (sym q.long) (only_both_rows q.vertex q.reached found given o f);
              reached = onwards q.vertex q.reached found given o f;
            }

pub run_end-end-requires : goal.run_end-end-requires
run_end-end-requires c = end_ok c.requires

pub number_run-free-requires : goal.number_run-free-requires
number_run-free-requires c = run_ok c.requires c.run_end-end.ensures

pub overflow_sub-next : goal.overflow_sub-next
overflow_sub-next c = omega (arith, limits c.requires c.run_end-end.ensures c.number_run-free.ensures)

pub overflow_add-olds : goal.overflow_add-olds
overflow_add-olds c = omega (arith, limits c.requires c.run_end-end.ensures c.number_run-free.ensures)

pub overflow_cast-v-2 : goal.overflow_cast-v-2
overflow_cast-v-2 c = omega (arith, limits c.requires c.run_end-end.ensures c.number_run-free.ensures)

pub fill-requires : goal.fill-requires
fill-requires c = fill_ok c.requires c.run_end-end.ensures c.number_run-free.ensures

pub returns : goal.returns
returns c = λ q. done q c.run_end-end.ensures c.number_run-free.ensures c.fill.ensures.only c.fill.ensures.filled
