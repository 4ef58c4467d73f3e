-- `corner_numbers::sort_corners` meets its contract. Assumes nothing.
use mathlib.Core.Path.{◌≡◌, sym, ap, ap₂, ◌∙◌}
use mathlib.Core.List.{List}
use Prim.Native.Nat.{ℕ, ◌+◌, ◌*◌, ◌≤◌, ◌<◌}
use native.Mathlib.Omega.{arith}
use lib.ListN.{length, get_or}
use lib.Seq.{take_all}
use Rattle.rows.specs.Region.{part, Apart.before, RowAsks, RowGives}
use Rattle.sorting.specs.Groups.{sorted_by, key_in}
use Rattle.sorting.specs.Order.{OrderAsks, OrderGives}
use Rattle.rows.proofs.Regions.{only_both, only_more, kept_at, kept, get_d_part}
use Rattle.corner_groups.specs.Sides.{CornersAsks, CornersGives}
use Rattle.corner_numbers.specs.Numbers.{SortAsks, SortGives}
use Rattle.table.proofs.Ids.{up_to_below}
use Rattle.corner_numbers.proofs.Sorted.{sorted_is}
use Rattle.corner_numbers.proofs.sort_corners.Goals as goal

module _ {w xs : List ℕ} {P : ℕ} (p : SortAsks w xs P) where
  row_ok : RowAsks xs (length xs) w
  row_ok = record { from_fit = omega arith; to_fit = omega (arith, p.fit) }

  -- the points are copied
  module _ {w₁ : List ℕ} (q : RowGives 0 xs (length xs) w w₁) where
    groups_ok : CornersAsks w₁ xs P (length xs)
    groups_ok = record { whole = p.whole; few = p.few; fit = omega (arith, p.fit, q.only.long); inside = p.inside }

    front : part w₁ 0 (length xs) ≡ xs
    front = q.copied ∙ take_all (length xs) xs (omega arith)

    -- the leaders stand
    module _ {w₂ : List ℕ} (g : CornersGives w₁ xs P (length xs) w₂) where
      fit₂ : 14 * length xs + 2 + P ≤ length w₂
      fit₂ = omega (arith, p.fit, q.only.long, g.only.long)

      front₂ : part w₂ 0 (length xs) ≡ xs
      front₂ = kept g.only 0 (length xs) (before (omega arith)) (omega (arith, fit₂, g.only.long)) ∙ front

      column₂ : (i : ℕ) → i < length xs → get_or w₂ (0 + i) 0 ≡ get_or xs i 0
      column₂ i b = sym (get_d_part w₂ 0 (length xs) i b) ∙ ap (λ l. get_or l i 0) front₂

      order_ok : OrderAsks w₂ (length xs) 0 (6 * length xs + 1) P (12 * length xs + 2 + P)
      order_ok =
          let f = fit₂ in
          record {
            tally = record {
              keys = record {
                fit = omega arith;
                key = λ i b. omega (arith, column₂ i b, p.inside i b);
                few = omega (arith, p.few);
              };
              bins_fit = omega arith;
              bins_keys = before (omega arith);
              zeros = record { each = λ i b. let e : 6 * length xs + 1 + i ≡ length xs + 5 * length xs + 1 + i = omega arith in ap (λ k. get_or w₂ k 0) e ∙ g.zeros.each i b };
            };
            to_fit = omega arith;
            to_keys = before (omega arith);
            to_bins = before (omega arith);
          }

      -- and the corners are sorted
      module _ {w₃ : List ℕ} (s : OrderGives w₂ (length xs) 0 (6 * length xs + 1) P (12 * length xs + 2 + P) w₃) where
        done : SortGives w xs P w₃
        done =
            let f = fit₂ in
            record {
              only =
                  only_both (only_more (omega arith) (omega arith) q.only)
                  (only_both (only_more (omega arith) (omega arith) g.only) (only_more (omega arith) (omega arith) s.only));
              column = record { each = λ i b. kept_at s.only {b = 0} {m = length xs} (before (omega arith)) i b ∙ column₂ i b };
              led = record {
                each = λ i b.
                    let z : 10 * length xs + 2 + P + i ≡ length xs + 9 * length xs + 2 + P + i = omega arith in
                    kept_at s.only {b = 10 * length xs + 2 + P} {m = length xs} (before (omega arith)) i b
                    ∙ ap (λ k. get_or w₂ k 0) z
                    ∙ g.led.each i b;
              };
              sorted = s.sorted ∙ ap₂ (λ ks is. sorted_by (key_in ks) P is) front₂ (up_to_below (length xs)) ∙ sorted_is xs p.whole P;
            }

pub order-requires : goal.order-requires
order-requires c = let at-lead-corners = c.before.before.before in
    let at-copy-row = at-lead-corners.before.before.before.before in
    let start = at-copy-row.before.before.before.before in
    order_ok start.requires at-copy-row.copy_row.ensures at-lead-corners.lead_corners.ensures

pub returns : goal.returns
returns c = let at-order = c.before.before in
    let at-lead-corners = at-order.before.before.before.before in
    let at-copy-row = at-lead-corners.before.before.before.before in
    let start = at-copy-row.before.before.before.before in
    done start.requires at-copy-row.copy_row.ensures at-lead-corners.lead_corners.ensures at-order.order.ensures
