-- The lines of the splits: one cursor goes on through the sorted corners. Assumes nothing.
use mathlib.Core.Path.{◌≡◌, ap, ◌∙◌}
use mathlib.Core.List.{List}
use Prim.Native.Nat.{ℕ, suc, ◌+◌, ◌*◌, ◌≤◌, ◌<◌}
use native.Mathlib.Omega.{arith}
use native.Mathlib.Numerals.{add-one}
use lib.ListN.{length}
use Rattle.byte_rows.specs.Put.{Puts}
use Rattle.list_text.specs.declared.Rows.{Rows}
use Rattle.list_text.specs.Written.{split_text, splits_text, start_of, BelowAsks, SplitAsks, SplitsAsk}
use Rattle.list_text.proofs.Onward.{Rowed, row_begin, row_room, row_on, row_done, Summed, sum_begin, sum_on, sum_done}
use Rattle.list_text.proofs.Corners.{start_most, start_next}
use Rattle.list_text.proofs.OneSplit.{line_of, splits_are, split_is}

-- the lines of the splits before j are put, and the cursor is at the corners of the next new point
pub record Placed (w origins : List ℕ) (rows : Rows) (w₀ : List ℕ) (at : ℕ) (text : List ℕ) (next from j : ℕ) : Type 0 where
  pub rowed : Rowed (line_of w origins rows) rows.splits w₀ at text next j
  pub cursor : from ≡ start_of w rows (rows.points + j)

-- or their lengths summed
pub record Totalled (w origins : List ℕ) (rows : Rows) (total from j : ℕ) : Type 0 where
  pub summed : Summed (line_of w origins rows) rows.splits total j
  pub cursor : from ≡ start_of w rows (rows.points + j)
  pub small : total ≤ 24 * j + 11 * from

module _ {w origins : List ℕ} {rows : Rows} (a : SplitsAsk w origins rows) where
  -- the corners before the first new point
  pub first_asks : BelowAsks w rows 0 rows.points
  first_asks = record { sorted = a.sorted; most = omega arith; begun = omega arith }

  -- before the first split the cursor stands behind them
  cursor_first : {from : ℕ} → from ≡ start_of w rows rows.points → from ≡ start_of w rows (rows.points + 0)
  cursor_first e = let z : rows.points + 0 ≡ rows.points = omega arith in rw z e

  pub place_begin : {w₀ : List ℕ} {at from : ℕ} → at + length (splits_text w origins rows) ≤ length w₀ → from ≡ start_of w rows rows.points → Placed w origins rows w₀ at w₀ at from 0
  place_begin h e = record { rowed = row_begin (line_of w origins rows) rows.splits (rw (splits_are w origins rows) at h); cursor = cursor_first e }

  pub total_begin : {from : ℕ} → from ≡ start_of w rows rows.points → Totalled w origins rows 0 from 0
  total_begin e = record { summed = sum_begin (line_of w origins rows) rows.splits; cursor = cursor_first e; small = omega arith }

  module _ {from j : ℕ} (e : from ≡ start_of w rows (rows.points + j)) (h : j < rows.splits) where
    -- the corners up to the new point
    pub next_asks : BelowAsks w rows from (rows.points + j + 1)
    next_asks = record { sorted = a.sorted; most = omega arith; begun = rw (e, add-one) (start_next a.sorted (rows.points + j)) }

    module _ {to : ℕ} (f : to ≡ start_of w rows (rows.points + j + 1)) where
      -- the same by the next number
      to_is : to ≡ start_of w rows (suc (rows.points + j))
      to_is = rw add-one at f

      pub split_asks : SplitAsks w origins rows j from to
      split_asks =
          record {
            run = record {
              sorted = a.sorted;
              origins_fit = a.origins_fit;
              rises = rw (e, to_is) (start_next a.sorted (rows.points + j));
              inside = rw to_is (start_most a.sorted (suc (rows.points + j)) (omega arith));
            };
            here = h;
            olds_fit = a.olds_fit;
            few_points = a.few_points;
          }

      -- the line is the rules'
      pub line_is : split_text w origins rows j from to ≡ line_of w origins rows j
      line_is = rw (e, to_is) (split_is w origins rows a.sorted j h)

      -- the cursor goes on
      pub cursor_on : to ≡ start_of w rows (rows.points + (j + 1))
      cursor_on = let z : rows.points + (j + 1) ≡ rows.points + j + 1 = omega arith in rw z f

  module _ {w₀ : List ℕ} {at : ℕ} {text : List ℕ} {next from j : ℕ} (v : Placed w origins rows w₀ at text next from j) where
    pub place_room : {to : ℕ} → j < rows.splits → to ≡ start_of w rows (rows.points + j + 1) → next + length (split_text w origins rows j from to) ≤ length text
    place_room h f = omega (arith, ap length (line_is v.cursor h f), row_room (line_of w origins rows) rows.splits v.rowed h)

    pub place_on : {to : ℕ} {text' : List ℕ} {r : ℕ} → j < rows.splits → to ≡ start_of w rows (rows.points + j + 1) → Puts text next (split_text w origins rows j from to) text' r → Placed w origins rows w₀ at text' r to (j + 1)
    place_on h f p = record { rowed = row_on (line_of w origins rows) rows.splits v.rowed h (rw (line_is v.cursor h f) at p); cursor = cursor_on v.cursor h f }

    pub place_done : rows.splits ≤ j → Puts w₀ at (splits_text w origins rows) text next
    place_done h = rw (splits_are w origins rows) (row_done (line_of w origins rows) rows.splits v.rowed h)

  module _ {total from j : ℕ} (v : Totalled w origins rows total from j) where
    pub total_on : {to k : ℕ} → j < rows.splits → to ≡ start_of w rows (rows.points + j + 1) → k ≡ length (split_text w origins rows j from to) → k + 11 * from ≤ 24 + 11 * to → Totalled w origins rows (total + k) to (j + 1)
    total_on h f e l =
        record {
          summed = sum_on (line_of w origins rows) rows.splits v.summed h (e ∙ ap length (line_is v.cursor h f));
          cursor = cursor_on v.cursor h f;
          small = omega (arith, v.small);
        }

    -- the cursor is among the corners
    pub total_small : j ≤ rows.splits → total ≤ 24 * j + 33 * rows.left
    total_small h = omega (arith, v.small, v.cursor, start_most a.sorted (rows.points + j) (omega arith))

    pub total_done : rows.splits ≤ j → (total ≡ length (splits_text w origins rows)) × (total ≤ 24 * rows.splits + 33 * rows.left)
    total_done h =
        let m = v.summed.at_most in
        (rw (splits_are w origins rows) (sum_done (line_of w origins rows) rows.splits v.summed h), omega (arith, total_small m))
