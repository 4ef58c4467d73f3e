-- `split_rows::sort_takers` meets its contract. Assumes nothing.
use mathlib.Core.Path.{◌≡◌, sym, ap, ◌∙◌}
use mathlib.Core.List.{List}
use Prim.Native.Nat.{ℕ, ◌+◌, ◌*◌, ◌<◌}
use native.Mathlib.Nat.{zero-add}
use native.Mathlib.Omega.{arith}
use lib.ListN.{get_or, take}
use lib.Seq.{get_or-take}
use Rattle.rows.specs.Region.{Only, Filled, RowGives, Apart.before}
use Rattle.rows.proofs.Regions.{kept, only_both, only_more}
use Rattle.rows.specs.Retain.{up_to}
use Rattle.sorting.specs.Groups.{sorted_by, key_in}
use Rattle.sorting.specs.Order.{OrderAsks, OrderGives}
use Rattle.split_rows.specs.Rows.{TakersAsks, TakersGives}
use Rattle.split_rows.proofs.sort_takers.Goals as goal

module _ {w xs : List ℕ} {n P bins sorted : ℕ} (p : TakersAsks w xs n P bins sorted) {w₁ : List ℕ} (g : RowGives 0 xs (3 * n) w w₁) {w₂ : List ℕ} (o : Only bins P w₁ w₂) (z : Filled bins P 0 w₂) where
  -- the corners stay while the bins are cleared
  column : take (3 * n) w₂ ≡ take (3 * n) xs
  column = kept o 0 (3 * n) (before (omega (arith, p.first))) (omega (arith, p.room, g.only.long)) ∙ g.copied

  key : (j : ℕ) → j < 3 * n → get_or w₂ (0 + j) 0 < P
  key j h =
      let e : get_or w₂ j 0 ≡ get_or xs j 0 = sym (get_or-take (3 * n) w₂ j 0 h) ∙ ap (λ l. get_or l j 0) column ∙ get_or-take (3 * n) xs j 0 h in
      rw (zero-add j) (omega (arith, p.inside j h))

  order_ok : OrderAsks w₂ (3 * n) 0 bins P sorted
  order_ok =
      let a = g.only.long in
      let b = o.long in
      record {
        tally =
            record {
              keys = record { fit = omega (arith, p.room); key = key; few = p.few };
              bins_fit = omega (arith, p.second, p.room);
              bins_keys = before (omega (arith, p.first));
              zeros = z;
            };
        to_fit = omega (arith, p.room);
        to_keys = before (omega (arith, p.first, p.second));
        to_bins = before (omega (arith, p.second));
      }

  done : {w₃ : List ℕ} → OrderGives w₂ (3 * n) 0 bins P sorted w₃ → TakersGives w xs n P bins sorted w₃
  done {w₃} q =
      let a = g.only.long in
      let b = o.long in
      let stays = kept q.only 0 (3 * n) (before (omega (arith, p.first, p.second))) (omega (arith, p.room)) in
      record {
        only = only_both (only_more (omega arith) (omega (arith, p.first, p.second)) g.only) (only_both (only_more (omega arith) (omega (arith, p.second)) o) (only_more (omega arith) (omega arith) q.only));
        column = stays ∙ column;
        before = w₂;
        column_before = column;
        ordered = q;
        sorted_are = q.sorted ∙ ap (λ l. sorted_by (key_in l) P (up_to (3 * n))) (sym stays);
      }

pub order-requires : goal.order-requires
order-requires c = order_ok c.requires c.copy_row.ensures c.clear.ensures.only c.clear.ensures.filled

pub returns : goal.returns
returns c = done c.requires c.copy_row.ensures c.clear.ensures.only c.clear.ensures.filled c.order.ensures
