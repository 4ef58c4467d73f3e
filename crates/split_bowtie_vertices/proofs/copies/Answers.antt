-- `split_bowtie_vertices::copies` meets its contract. The invariant: j copies stand behind the points. Assumes nothing.
use mathlib.Core.Path.{◌≡◌, sym, ap, ap₂, ◌∙◌}
use mathlib.Core.List.{List, ◌++◌, append-nil, append_assoc}
use Prim.Native.Nat.{ℕ, ◌+◌, ◌*◌, ◌≤◌, ◌<◌}
use native.Mathlib.Omega.{arith}
use native.Mathlib.Numerals.{add-one}
use native.Mathlib.Nat.{add-zero}
use lib.ListN.{take}
use lib.Seq.{take-add}
use lib.Ieee.{Float, nan}
use Rattle.rows.specs.Region.{part, Apart.before}
use Rattle.rows.specs.Retain.{MoveAsks, MoveGives}
use Rattle.rows.proofs.Regions.{only_none, only_both, only_more, kept}
use Rattle.rules.specs.Lists.{below, each}
use Rattle.splitting.proofs.AllAtOnce.{each_last}
use Rattle.split_bowtie_vertices.specs.Splits.{CopiesAsks, CopiesGives}
use Rattle.split_bowtie_vertices.proofs.copies.Invariants.{Inv}
use Rattle.split_bowtie_vertices.proofs.copies.Goals as goal

begin : {ps : List Float} {v from m : ℕ} → CopiesAsks ps v from m → Inv ps v from m ps 0
begin {ps} {v} {from} p =
    record {
      at_most = omega arith;
      only = only_none _ _ _;
      copied = ap (λ k. take (3 * k) ps) (add-zero from) ∙ sym (unfold each below in append-nil (take (3 * from) ps));
    }

module _ {ps₀ : List Float} {v from m : ℕ} {ps : List Float} {j : ℕ} (p : CopiesAsks ps₀ v from m) (i : Inv ps₀ v from m ps j) (h : j < m) where
  move_ok : MoveAsks ps v (from + j)
  move_ok = let l = i.only.long in record { from_fit = omega (arith, p.vertex, p.fit); to_fit = omega (arith, p.fit) }

  again : {ps' : List Float} → MoveGives nan ps v (from + j) ps' → Inv ps₀ v from m ps' (j + 1)
  again {ps'} g =
      let l = i.only.long in
      let e : 3 * (from + (j + 1)) ≡ 3 * (from + j) + 3 = omega arith in
      record {
        at_most = omega arith;
        only = only_both (only_more (omega arith) (omega arith) i.only) (only_more (omega arith) (omega arith) g.only);
        copied =
            ap (λ k. take k ps') e
            ∙ take-add (3 * (from + j)) 3 ps'
            ∙ ap₂ (λ a b. a ++ b)
            (kept g.only 0 (3 * (from + j)) (before (omega arith)) (omega (arith, p.fit)) ∙ i.copied)
            (g.moved ∙ kept i.only (3 * v) 3 (before (omega (arith, p.vertex))) (omega (arith, p.vertex, p.fit)))
            ∙ append_assoc (take (3 * from) ps₀) (each (λ i. part ps₀ (3 * v) 3) (below j)) (part ps₀ (3 * v) 3)
            ∙ ap (λ r. take (3 * from) ps₀ ++ r) (sym (ap (λ k. each (λ i. part ps₀ (3 * v) 3) (below k)) (add-one j) ∙ each_last (λ i. part ps₀ (3 * v) 3) j));
      }

done : {ps₀ : List Float} {v from m : ℕ} {ps : List Float} {j : ℕ} → CopiesAsks ps₀ v from m → Inv ps₀ v from m ps j → m ≤ j → CopiesGives ps₀ v from m ps
done {m = m} {j = j} p i h = let e : j ≡ m = omega (arith, i.at_most) in record { only = rw e at i.only; copied = rw e at i.copied }

pub loop-j-init : goal.loop-j-init
loop-j-init c = begin c.requires

pub loop-j-preserved : goal.loop-j-preserved
loop-j-preserved c = again c.requires c.loop-j.invariant c.loop-j-test.true c.move_row.ensures

pub returns : goal.returns
returns c = done c.requires c.loop-j.invariant c.loop-j-test.false
