-- `rank::scan` meets its contract. The invariant: the choice is the best of the entries passed.
-- Assumes nothing.
use mathlib.Core.Path.{ap, ◌∙◌}
use mathlib.Core.List.{List}
use Prim.Native.Nat.{ℕ, ◌+◌, ◌/◌, ◌≤◌, ◌<◌}
use native.Mathlib.Omega.{arith}
use lib.ListN.{length, get_or, take}
use lib.Seq.{take_all}
use lib.Ieee.{Float}
use Rattle.std.specs.Prelude.{Option, Some}
use Rattle.rank.specs.declared.Choice.{Choice}
use Rattle.rank.specs.Ranks.{faces_in, count, value_of, pick, face_or, BetterAsks, BetterGives, ScanAsks, ScanGives}
use Rattle.rank.proofs.RankLaws.{pick_none, pick_snoc, faces_next}
use Rattle.rank.proofs.scan.Invariants.{Inv}
use Rattle.rank.proofs.scan.Goals as goal

begin : {ps : List Float} {xs run : List ℕ} {b : Option Choice} → ScanAsks ps xs run b → Inv ps xs run b b 0
begin {ps} {xs} {run} {b} p = record { chosen = p.chosen; picked = pick_none (count xs) (value_of ps xs) (face_or (count xs) b) }

module _ {ps : List Float} {xs run : List ℕ} {b₀ b : Option Choice} {i : ℕ} (p : ScanAsks ps xs run b₀) (v : Inv ps xs run b₀ b i) (h : i < length run) where
  better_ok : BetterAsks ps xs b (get_or run i 0 / 3)
  better_ok = record { faces = p.rank.faces; chosen = v.chosen; here = omega (arith, p.rank.faces.whole, p.rank.ids i h) }

  again : {r : Choice} → BetterGives ps xs b (get_or run i 0 / 3) r → Inv ps xs run b₀ (Some r) (i + 1)
  again g =
      record {
        chosen = g.chosen;
        picked = rw (faces_next run i h, pick_snoc (count xs) (value_of ps xs) (face_or (count xs) b₀) (faces_in (take i run)) (get_or run i 0 / 3), ← v.picked) g.picked;
      }

done : {ps : List Float} {xs run : List ℕ} {b₀ b : Option Choice} {i : ℕ} → Inv ps xs run b₀ b i → length run ≤ i → ScanGives ps xs run b₀ b
done {ps} {xs} {run} {b₀} {b} {i} v h = record { chosen = v.chosen; picked = v.picked ∙ ap (λ l. pick (count xs) (value_of ps xs) (face_or (count xs) b₀) (faces_in l)) (take_all i run h) }

pub loop-id-init : goal.loop-id-init
loop-id-init c = begin c.requires

pub better-requires : goal.better-requires
better-requires c = better_ok c.requires c.loop-id.invariant c.loop-id-test.true

pub loop-id-preserved : goal.loop-id-preserved
loop-id-preserved c = again c.requires c.loop-id.invariant c.loop-id-test.true c.better.ensures

pub returns : goal.returns
returns c = done c.loop-id.invariant c.loop-id-test.false
