-- `rows_try::keyed` meets its contract: antt computes what the row holds. Assumes nothing.
use mathlib.Core.Path.{◌≡◌, refl}
use mathlib.Core.Bool.{true}
use mathlib.Core.List.{List}
use Prim.Native.Nat.{ℕ}
use native.Mathlib.Omega.{arith}
use lib.ListN.{length}
use Rattle.rows.specs.Region.{Apart.before, Apart.after}
use Rattle.sorting.specs.Sort.{SortAsks}
use Rattle.sorting.specs.Order.{OrderTriplesAsks}
use Rattle.rows_try.proofs.Bounded.{within, bounded, zeros}
use Rattle.rows_try.proofs.keyed.Goals as goal

-- rows in line, of ids below 6, of keys below 3, and of zeros
ready : (w : List ℕ) → length w ≡ 39 → within w 0 6 6 ≡ true → within w 18 6 3 ≡ true → within w 24 3 1 ≡ true → SortAsks w 0 6 18 24 3 33
ready w l ids keys bins =
    record {
      count = record {
        keyed = record { ids_fit = omega arith; keys_fit = omega arith; id = bounded w 0 6 6 ids; key = bounded w 18 6 3 keys };
        few = omega arith;
        bins_fit = omega arith;
        bins_ids = before (omega arith);
        bins_keys = before (omega arith);
        zeros = record { each = zeros w 24 3 bins };
      };
      to_fit = omega arith;
      to_ids = before (omega arith);
      to_keys = before (omega arith);
      to_bins = before (omega arith);
    }

-- and the same by three keys of the numbers below 6, which need no row of ids
ready_numbers : (w : List ℕ) → length w ≡ 39 → within w 6 6 3 ≡ true → within w 12 6 3 ≡ true → within w 18 6 3 ≡ true → within w 24 3 1 ≡ true → OrderTriplesAsks w 6 6 12 18 24 3 27 33
ready_numbers w l first second third bins =
    record {
      by_rest = record {
        by_second = record {
          tally = record {
            keys = record { fit = omega arith; key = bounded w 18 6 3 third; few = omega arith };
            bins_fit = omega arith;
            bins_keys = before (omega arith);
            zeros = record { each = zeros w 24 3 bins };
          };
          to_fit = omega arith;
          to_keys = before (omega arith);
          to_bins = before (omega arith);
        };
        firsts = record { fit = omega arith; key = bounded w 12 6 3 second; few = omega arith };
        bins_first = before (omega arith);
        spare_first = before (omega arith);
        to_fit = omega arith;
        to_first = before (omega arith);
        to_spare = after (omega arith);
        to_bins = before (omega arith);
      };
      firsts = record { fit = omega arith; key = bounded w 6 6 3 first; few = omega arith };
      bins_first = before (omega arith);
      spare_first = before (omega arith);
      to_first = before (omega arith);
    }

pub returns : goal.returns
returns c = record { value = refl; sort_asks = ready _ refl refl refl refl; order_triples_asks = ready_numbers _ refl refl refl refl refl }
