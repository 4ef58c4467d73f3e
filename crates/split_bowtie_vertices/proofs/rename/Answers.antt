-- `split_bowtie_vertices::rename` meets its contract. The invariant: the corners passed have their numbers. Assumes nothing.
use mathlib.Core.Path.{◌≡◌, ◌∙◌}
use mathlib.Core.List.{List}
use Prim.Native.Nat.{ℕ, ◌+◌, ◌≤◌, ◌<◌}
use native.Mathlib.Omega.{arith}
use native.Mathlib.Decide.{ℕ_discrete}
use lib.ListN.{get_or, set}
use lib.Seq.{get_or-set_same, get_or-set_other}
use Rattle.rows.proofs.Regions.{only_none, only_both, only_set}
use Rattle.corner_numbers.specs.Numbers.{new_by}
use Rattle.split_bowtie_vertices.specs.Splits.{RenameAsks, RenameGives}
use Rattle.split_bowtie_vertices.proofs.rename.Invariants.{Inv}
use Rattle.split_bowtie_vertices.proofs.rename.Goals as goal
use Rattle.split_bowtie_vertices.proofs.rename.Invariants.{Turn}

begin : {xs w : List ℕ} {leads numbers n : ℕ} → RenameAsks xs w leads numbers n → Inv xs w leads numbers n xs 0
begin p = record { at_most = omega arith; only = only_none _ _ _; renamed = λ i h. absurd (omega arith) }

module _ {xs₀ w : List ℕ} {leads numbers n : ℕ} {xs : List ℕ} {id : ℕ} (p : RenameAsks xs₀ w leads numbers n) (v : Inv xs₀ w leads numbers n xs id) (h : id < n) where
  turn : Turn xs n id
  turn = record { here = h; fit = omega (arith, p.fit, v.only.long) }

  again : {x : ℕ} → x ≡ new_by w leads numbers id → Inv xs₀ w leads numbers n (set xs id x) (id + 1)
  again {x} e =
      let t = turn in
      record { at_most = omega arith; only = only_both v.only (only_set xs id x (omega arith) (omega arith)); renamed = λ i l. go i l (ℕ_discrete i id) }
    where
      go : (i : ℕ) → i < id + 1 → Dec (i ≡ id) → get_or (set xs id x) i 0 ≡ new_by w leads numbers i
      go i l (yes s) = let t = turn in rw s (get_or-set_same xs id x 0 (omega arith) ∙ e)
      go i l (no s) = get_or-set_other xs id i x 0 s ∙ v.renamed i (omega arith)

done : {xs₀ w : List ℕ} {leads numbers n : ℕ} {xs : List ℕ} {id : ℕ} → RenameAsks xs₀ w leads numbers n → Inv xs₀ w leads numbers n xs id → n ≤ id → RenameGives xs₀ w leads numbers n xs
done p v h = record { only = v.only; renamed = λ i l. v.renamed i (omega arith) }

pub loop-id-init : goal.loop-id-init
loop-id-init c = begin c.requires

pub loop-id-preserved : goal.loop-id-preserved
loop-id-preserved c = rw c.store.ensures (again c.requires c.loop-id.invariant c.loop-id-test.true c.new_corner-taken.ensures)

pub returns : goal.returns
returns c = done c.requires c.loop-id.invariant c.loop-id-test.false
