-- `split_bowtie_vertices::split_vertex` meets its contract. Assumes nothing.
use mathlib.Core.Path.{sym, subst}
use mathlib.Core.List.{List}
use Prim.Native.Nat.{ℕ, ◌+◌, ◌*◌, ◌-◌}
use lib.Ieee.{Float, nan}
use lib.ListN.{length}
use Rattle.rows.specs.Region.{OnlyOf}
use Rattle.corner_numbers.specs.Numbers.{EndAsks, EndGives, RunAsks, RunGives}
use Rattle.split_bowtie_vertices.specs.Splits.{CopiesAsks, CopiesGives, VertexAsks, VertexGives}
use Rattle.split_bowtie_vertices.proofs.Vertices.{end_asks, run_asks, copies_asks, added, only_points, onward}
use Rattle.split_bowtie_vertices.proofs.split_vertex.Goals as goal

module _ {ps : List Float} {w : List ℕ} {P n v begin next : ℕ} (q : VertexAsks ps w P n v begin next) where
  end_ok : EndAsks w (12 * n + 2 + P) begin n
  end_ok = subst (λ k. EndAsks w (12 * k + 2 + P) begin k) (sym q.long) (end_asks q.vertex q.reached)

  -- the run is found
  module _ {end : ℕ} (e : EndGives w (12 * n + 2 + P) begin n v end) where
    found : EndGives w (12 * length q.ys + 2 + P) begin (length q.ys) v end
    found = subst (λ k. EndGives w (12 * k + 2 + P) begin k v end) q.long e

    run_ok : RunAsks w (12 * n + 2 + P + begin) (end - begin) (10 * n + 2 + P) (13 * n + 2 + P) n v next
    run_ok = subst (λ k. RunAsks w (12 * k + 2 + P + begin) (end - begin) (10 * k + 2 + P) (13 * k + 2 + P) k v next) (sym q.long) (run_asks q.vertex q.reached found)

    -- its groups are numbered
    module _ {w' : List ℕ} {free : ℕ} (g : RunGives w (12 * n + 2 + P + begin) (end - begin) (10 * n + 2 + P) (13 * n + 2 + P) n v next w' free) where
      given : RunGives w (12 * length q.ys + 2 + P + begin) (end - begin) (10 * length q.ys + 2 + P) (13 * length q.ys + 2 + P) (length q.ys) v next w' free
      given = subst (λ k. RunGives w (12 * k + 2 + P + begin) (end - begin) (10 * k + 2 + P) (13 * k + 2 + P) k v next w' free) q.long g

      copies_ok : CopiesAsks ps v next (free - next)
      copies_ok = copies_asks q.vertex q.reached found given

      -- and the copies are there
      module _ {ps' : List Float} (c : CopiesGives ps v next (free - next) ps') where
        done : VertexGives q ps' w' (record { end = end; next = free })
        done =
            record {
              only_work = g.only;
              only_points = subst (λ k. OnlyOf nan (3 * P) (3 * k) ps ps') (sym q.long) (only_points q.vertex q.reached found given c);
              added = added q.vertex q.reached found given;
              reached = onward q.vertex q.reached found given c;
            }

pub run_end-end-requires : goal.run_end-end-requires
run_end-end-requires c = end_ok c.requires

pub number_run-free-requires : goal.number_run-free-requires
number_run-free-requires c = run_ok c.requires c.run_end-end.ensures

pub copies-requires : goal.copies-requires
copies-requires c = copies_ok c.requires c.run_end-end.ensures c.number_run-free.ensures

pub returns : goal.returns
returns c = λ q. done q c.run_end-end.ensures c.number_run-free.ensures c.copies.ensures
