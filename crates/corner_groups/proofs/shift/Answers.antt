-- `corner_groups::shift` meets its contract. The invariant: only the first i entries of the destination are changed. Assumes nothing.
use mathlib.Core.Path.{◌≡◌, ap}
use mathlib.Core.List.{List}
use Prim.Native.Nat.{ℕ, ◌+◌, ◌≤◌, ◌<◌}
use native.Mathlib.Omega.{arith}
use lib.ListN.{get_or, set}
use Rattle.rows.proofs.Regions.{only_none, only_next, only_more, holds_none, holds_next, kept_at}
use Rattle.corner_groups.specs.Sides.{ShiftAsks, ShiftGives}
use Rattle.corner_groups.proofs.shift.Invariants.{Inv}
use Rattle.corner_groups.proofs.shift.Goals as goal
use Rattle.corner_groups.proofs.shift.Invariants.{Turn}

begin : {w : List ℕ} {from n by to : ℕ} → ShiftAsks w from n by to → Inv w from n by to w 0
begin p = record { at_most = omega arith; only = only_none _ _ _; shifted = holds_none }

module _ {w₀ : List ℕ} {from n by to : ℕ} {w : List ℕ} {i : ℕ} (p : ShiftAsks w₀ from n by to) (v : Inv w₀ from n by to w i) (h : i < n) where
  same : get_or w (from + i) 0 ≡ get_or w₀ (from + i) 0
  same = kept_at (only_more (omega arith) (omega arith) v.only) p.apart i h

  turn : Turn w from n by to i
  turn = let l = v.only.long in record { from_in = omega (arith, p.from_fit); to_in = omega (arith, p.to_fit); here = h; small = omega (arith, same, p.small i h) }

  again : Inv w₀ from n by to (set w (to + i) (by + get_or w (from + i) 0)) (i + 1)
  again =
      let t = turn in
      record { at_most = omega arith; only = only_next _ v.only; shifted = holds_next _ (omega arith) (ap (λ x. by + x) same) v.shifted }

done : {w₀ : List ℕ} {from n by to : ℕ} {w : List ℕ} {i : ℕ} → ShiftAsks w₀ from n by to → Inv w₀ from n by to w i → n ≤ i → ShiftGives w₀ from n by to w
done {w₀} {from} {n} {by} {to} {w} {i} p v h =
    let e : i ≡ n = omega arith in
    record { only = rw e at v.only; shifted = rw e at v.shifted }

pub loop-i-init : goal.loop-i-init
loop-i-init c = begin c.requires

pub loop-i-preserved : goal.loop-i-preserved
loop-i-preserved c = again c.requires c.loop-i.invariant c.loop-i-test.true

pub returns : goal.returns
returns c = done c.requires c.loop-i.invariant c.loop-i-test.false
