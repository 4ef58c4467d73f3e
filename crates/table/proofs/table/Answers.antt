-- `table::table` meets its contract. The runs begin where the edges of the rules do.
-- Assumes nothing.
use mathlib.Core.Path.{◌≡◌, sym, ap, subst, ◌∙◌}
use mathlib.Core.Bool.{Bool}
use mathlib.Core.List.{List}
use Prim.Native.Nat.{ℕ, ◌+◌, ◌*◌, ◌<◌}
use native.Mathlib.Omega.{arith}
use lib.ListN.{length, get_or, length-map}
use borrow.Author.Count.{below_more}
use Rattle.rows.specs.Region.{Apart.before, Apart.after}
use Rattle.rows.proofs.Regions.{only_both, get_d_part, kept2, holds_kept2}
use Rattle.rules.specs.Lists.{below, count}
use Rattle.rules.specs.Mesh.{faces_of}
use Rattle.rules.specs.Steps.{Step}
use Rattle.rule_laws.proofs.Lists.{get_or_map_in, length_below}
use Rattle.rule_laws.proofs.Rising.{get_or_below}
use Rattle.table.specs.Entries.{keys_of, start_of}
use Rattle.table.specs.Runs.{RunsAsks, RunsGives}
use Rattle.table.specs.Table.{TableAsks, Sorted, OrderGives, TableGives, run_of}
use Rattle.table.proofs.Frames.{only2_wide}
use Rattle.table.proofs.Places.{asks_kept, placed, last_start}
use Rattle.table.proofs.Begun.{table_asks, starts_all, begun}
use Rattle.table.proofs.table.Goals as goal

module _ {w xs : List ℕ} {P : ℕ} {d : Bool} {at : ℕ} (p₀ : TableAsks w xs P at) {w₁ : List ℕ} (q : OrderGives w xs P d at w₁) where
  p : TableAsks w₁ xs P at
  p = asks_kept p₀ q.only.long

  runs_ok : RunsAsks w₁ (length xs) at
  runs_ok = table_asks p q.table

  module _ {w₂ : List ℕ} {m : ℕ} (r : RunsGives w₁ (length xs) at w₂ m) where
    -- numbering the runs leaves the keys and the order
    sorted : Sorted w₂ xs P d at
    sorted =
        record {
          firsts = holds_kept2 r.only (before (omega arith)) (before (omega arith)) q.table.firsts;
          seconds = holds_kept2 r.only (before (omega arith)) (before (omega arith)) q.table.seconds;
          sorted = kept2 r.only (at + 3 * length xs) (length xs) (after (omega arith)) (before (omega arith)) (omega (arith, p.fit)) ∙ q.table.sorted;
        }

    abbrev es : List Step
    es = keys_of d P (faces_of xs)

    abbrev from : ℕ → ℕ
    from k = start_of d P (faces_of xs) k

    -- as many runs as edges
    number : m ≡ length es
    number = r.number ∙ unfold count in (ap length (starts_all p q.table)) ∙ length-map (below (length es)) from ∙ length_below (length es)

    -- they begin where the rules' edges do
    start_at : (k : ℕ) → k < m → get_or w₂ (at + 4 * length xs + k) 0 ≡ from k
    start_at k h =
        let l : k < length es = omega (arith, number) in
        sym (get_d_part w₂ (at + 4 * length xs) m k h)
        ∙ ap (λ t. get_or t k 0) (r.starts ∙ starts_all p q.table)
        ∙ get_or_map_in from (below (length es)) k 0 0 (omega (arith, length_below (length es)))
        ∙ ap from (get_or_below (length es) k l)

    -- every entry has a place, and there its run was written
    run_at : (i : ℕ) → i < length xs → get_or w₂ (at + 2 * length xs + i) 0 ≡ run_of xs P d i
    run_at i h =
        let t = placed p q.table i h in
        subst (λ y. get_or w₂ (at + 2 * length xs + y) 0 ≡ run_of xs P d y) t.2 (r.runs (run_of xs P d) (begun p q.table) t.0 t.1)

    done : TableGives w xs P d at w₂ m
    done =
        record {
          only = only_both q.only (only2_wide at (5 * length xs + 1 + P) (omega arith) (omega arith) (omega arith) (omega arith) r.only);
          zeros = holds_kept2 r.only (after (omega arith)) (after (omega arith)) q.zeros;
          tabled = record {
            asks = asks_kept p r.only.long;
            table = sorted;
            count = number;
            starts = record { each = below_more (λ k. get_or w₂ (at + 4 * length xs + k) 0 ≡ from k) m start_at (r.end ∙ sym (last_start p q.table) ∙ ap from (sym number)) };
            runs = record { each = run_at };
          };
        }

pub runs-requires : goal.runs-requires
runs-requires c = let at-order = c.before.before.before in
    let start = at-order.before.before.before.before in
    runs_ok start.requires at-order.order.ensures

pub returns : goal.returns
returns c = let at-runs = c.before.before in
    let at-order = at-runs.before.before.before.before in
    let start = at-order.before.before.before.before in
    done start.requires at-order.order.ensures at-runs.runs.ensures
