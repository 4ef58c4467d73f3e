-- What `sorting::order` leaves is what the lines of the splits are told from. Assumes nothing.
use mathlib.Core.Path.{sym, ap, ◌∙◌}
use mathlib.Core.List.{List}
use Prim.Native.Nat.{ℕ, ◌+◌, ◌*◌, ◌≤◌}
use native.Mathlib.Omega.{arith}
use Rattle.rows.specs.Retain.{up_to}
use Rattle.rows.proofs.Regions.{kept}
use Rattle.sorting.specs.Groups.{sorted_by, key_in}
use Rattle.sorting.specs.Order.{OrderAsks, OrderGives}
use Rattle.list_text.specs.declared.Rows.{Rows}
use Rattle.list_text.specs.Written.{Sorted}

-- the column is kept, so the corners are sorted by what it holds then
pub sorted_by_order :
    {w w' : List ℕ} {bins top : ℕ} (rows : Rows) → OrderAsks w (3 * rows.left) rows.column bins top rows.sorted
    → OrderGives w (3 * rows.left) rows.column bins top rows.sorted w' → rows.left ≤ 1048576 → rows.points + rows.splits ≤ top → Sorted w' rows
sorted_by_order {w} {w'} {bins} {top} rows a g few enough =
    let n = 3 * rows.left in
    let l = g.only.long in
    let f = a.tally.keys.fit in
    let t = a.to_fit in
    record {
      column_fit = omega arith;
      sorted_fit = omega arith;
      few = few;
      top = top;
      enough = enough;
      sorted = g.sorted ∙ ap (λ (ks : List ℕ). sorted_by (key_in ks) top (up_to n)) (sym (kept g.only rows.column n a.to_keys f));
    }
