-- `table::order` meets its contract. Each step leaves what the ones before it wrote.
-- Assumes nothing.
use mathlib.Core.Path.{◌≡◌, ◌∙◌}
use mathlib.Core.Bool.{Bool}
use mathlib.Core.List.{List}
use Prim.Native.Nat.{ℕ, ◌+◌, ◌*◌, ◌<◌}
use native.Mathlib.Omega.{arith}
use lib.ListN.{length}
use Rattle.rows.specs.Region.{Apart.before, Apart.after, Only, Holds, Filled}
use Rattle.sorting.specs.Sort.{key_by}
use Rattle.sorting.specs.Order.{OrderPairsAsks, OrderPairsGives}
use Rattle.rows.proofs.Regions.{only_both, only_more, holds_kept, get_d_part, holds_kept2}
use Rattle.rules.specs.Mesh.{faces_of}
use Rattle.table.specs.Entries.{step_at, under}
use Rattle.table.specs.Table.{KeysAsks, KeysGives, TableAsks, OrderGives}
use Rattle.table.proofs.Frames.{only2_wide}
use Rattle.table.proofs.Ids.{order_is, three_faces}
use Rattle.table.proofs.Rows.{keys_in}
use Rattle.table.proofs.order.Goals as goal

keys_ok : {w xs : List ℕ} {P at : ℕ} → TableAsks w xs P at → KeysAsks w xs at (at + length xs)
keys_ok p = record { whole = p.whole; few = p.few; first_fit = omega arith; second_fit = omega arith; apart = before (omega arith) }

module _ {w₀ xs : List ℕ} {P at : ℕ} {d : Bool} (p : TableAsks w₀ xs P at) {w₁ : List ℕ} (k : KeysGives w₀ xs d at (at + length xs) w₁)
    {w₂ : List ℕ} (o₂ : Only (at + 5 * length xs + 1) P w₁ w₂) (zeros : Filled (at + 5 * length xs + 1) P 0 w₂) where
  firsts₂ : Holds at (length xs) (λ id. (under d (step_at (faces_of xs) id)).from) w₂
  firsts₂ = holds_kept o₂ (before (omega arith)) k.firsts

  seconds₂ : Holds (at + length xs) (length xs) (λ id. (under d (step_at (faces_of xs) id)).to) w₂
  seconds₂ = holds_kept o₂ (before (omega arith)) k.seconds

  long₂ : length w₂ ≡ length w₀
  long₂ = o₂.long ∙ k.only.long

  pairs_ok : OrderPairsAsks w₂ (length xs) at (at + length xs) (at + 5 * length xs + 1) P (at + 4 * length xs) (at + 3 * length xs)
  pairs_ok =
      let l = long₂ in
      record {
        by_second = record {
          tally = record {
            keys = record { fit = omega arith; key = λ j h. rw (seconds₂.each j h) (keys_in P d xs p.whole p.inside j h).1; few = p.few };
            bins_fit = omega arith;
            bins_keys = before (omega arith);
            zeros = zeros;
          };
          to_fit = omega arith;
          to_keys = before (omega arith);
          to_bins = after (omega arith);
        };
        firsts = record { fit = omega arith; key = λ j h. rw (firsts₂.each j h) (keys_in P d xs p.whole p.inside j h).0; few = p.few };
        bins_first = before (omega arith);
        spare_first = before (omega arith);
        to_fit = omega arith;
        to_first = before (omega arith);
        to_spare = after (omega arith);
        to_bins = after (omega arith);
      }

  done : {w₃ : List ℕ} → OrderPairsGives w₂ (length xs) at (at + length xs) (at + 5 * length xs + 1) P (at + 4 * length xs) (at + 3 * length xs) w₃ → OrderGives w₀ xs P d at w₃
  done {w₃} r =
      let n = length xs in
      let t = three_faces xs p.whole in
      let law = order_is d P (faces_of xs) (key_by w₂ at n) (key_by w₂ (at + n) n)
      (λ id h. let q : id < length xs = omega arith in get_d_part w₂ at n id q ∙ firsts₂.each id q)
      (λ id h. let q : id < length xs = omega arith in get_d_part w₂ (at + n) n id q ∙ seconds₂.each id q) in
      record {
        only = only_both (only2_wide at (5 * n + 1 + P) (omega arith) (omega arith) (omega arith) (omega arith) k.only)
            (only_both (only_more (omega arith) (omega arith) o₂) (only2_wide at (5 * n + 1 + P) (omega arith) (omega arith) (omega arith) (omega arith) r.only));
        zeros = holds_kept2 r.only (after (omega arith)) (after (omega arith)) zeros;
        table = record {
          firsts = holds_kept2 r.only (before (omega arith)) (before (omega arith)) firsts₂;
          seconds = holds_kept2 r.only (before (omega arith)) (before (omega arith)) seconds₂;
          sorted = r.sorted ∙ rw t at law;
        };
      }

pub keys-requires : goal.keys-requires
keys-requires c = let start = c.before.before.before in
    keys_ok start.requires

pub order_pairs-requires : goal.order_pairs-requires
order_pairs-requires c = let at_clear = c.before.before.before in
    let at-keys = at_clear.before.before.before.before in
    let start = at-keys.before.before.before.before in
    pairs_ok start.requires at-keys.keys.ensures at_clear.clear.ensures.only at_clear.clear.ensures.filled

pub returns : goal.returns
returns c = let at-order-pairs = c.before.before in
    let at_clear = at-order-pairs.before.before.before.before in
    let at-keys = at_clear.before.before.before.before in
    let start = at-keys.before.before.before.before in
    done start.requires at-keys.keys.ensures at_clear.clear.ensures.only at_clear.clear.ensures.filled at-order-pairs.order_pairs.ensures
