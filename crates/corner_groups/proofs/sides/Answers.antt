-- `corner_groups::sides` meets its contract. The invariant: both halves hold the corners of the steps passed. Assumes nothing.
use mathlib.Core.Path.{◌≡◌, ap, ◌∙◌}
use mathlib.Core.List.{List}
use Prim.Native.Nat.{ℕ, ◌+◌, ◌≤◌, ◌<◌}
use native.Mathlib.Omega.{arith}
use lib.ListN.{length, get_or, set, length-set}
use Rattle.rows.specs.Region.{Apart.before, Apart.after, Only}
use Rattle.rows.proofs.Regions.{only_none, only_both, only_set, kept_at, holds_none, holds_next, holds_kept}
use Rattle.corner_groups.specs.Sides.{lower_of, higher_of, SideAsks, SidesAsks, SidesGives}
use Rattle.corner_groups.proofs.Ends.{lower_in, higher_in}
use Rattle.corner_groups.proofs.sides.Invariants.{Inv}
use Rattle.corner_groups.proofs.sides.Goals as goal
use Rattle.corner_groups.proofs.sides.Invariants.{Turn}

begin : {w xs : List ℕ} {from to : ℕ} → SidesAsks w xs from to → Inv w xs from to w 0
begin p = record { at_most = omega arith; only = only_none _ _ _; lows = holds_none; highs = holds_none }

module _ {w₀ xs : List ℕ} {from to : ℕ} {w : List ℕ} {i : ℕ} (p : SidesAsks w₀ xs from to) (v : Inv w₀ xs from to w i) (h : i < length xs) where
  same : get_or w (from + i) 0 ≡ get_or w₀ (from + i) 0
  same = kept_at v.only p.apart i h

  side : SideAsks xs (get_or w (from + i) 0)
  side = record { whole = p.whole; few = p.few; here = omega (arith, same, p.id i h) }

  turn : Turn w xs from to i
  turn =
      let l = v.only.long in
      record { few = p.few; from_in = omega (arith, p.from_fit); to_in = omega (arith, p.to_fit); here = h; step = side; low = lower_in side; high = higher_in side }

  again : {a b : ℕ} → a ≡ lower_of xs (get_or w (from + i) 0) → b ≡ higher_of xs (get_or w (from + i) 0)
      → Inv w₀ xs from to (set (set w (to + i) a) (to + length xs + i) b) (i + 1)
  again {a} {b} ea eb =
      let t = turn in
      let w₁ = set w (to + i) a in
      let o₁ : Only to (length xs) w w₁ = only_set w (to + i) a (omega arith) (omega arith) in
      let o₂ : Only (to + length xs) (length xs) w₁ (set w₁ (to + length xs + i) b) = only_set w₁ (to + length xs + i) b (omega arith) (omega arith) in
      record {
        at_most = omega arith;
        only = only_both v.only (only_both (only_set w (to + i) a (omega arith) (omega arith)) (only_set w₁ (to + length xs + i) b (omega arith) (omega arith)));
        lows = holds_kept o₂ (before (omega arith)) (holds_next a (omega arith) (ea ∙ ap (lower_of xs) same) v.lows);
        highs = holds_next b (rw length-set (omega arith)) (eb ∙ ap (higher_of xs) same) (holds_kept o₁ (after (omega arith)) v.highs);
      }

done : {w₀ xs : List ℕ} {from to : ℕ} {w : List ℕ} {i : ℕ} → SidesAsks w₀ xs from to → Inv w₀ xs from to w i → length xs ≤ i → SidesGives w₀ xs from to w
done {w₀} {xs} {from} {to} {w} {i} p v h =
    let e : i ≡ length xs = omega arith in
    record { only = v.only; lows = rw e at v.lows; highs = rw e at v.highs }

pub loop-i-init : goal.loop-i-init
loop-i-init c = begin c.requires

pub loop-i-preserved : goal.loop-i-preserved
loop-i-preserved c = again c.requires c.loop-i.invariant c.loop-i-test.true c.end_corners-a.ensures.lower c.end_corners-a.ensures.higher

pub returns : goal.returns
returns c = done c.requires c.loop-i.invariant c.loop-i-test.false
