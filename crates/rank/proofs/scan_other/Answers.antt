-- `rank::scan_other` meets its contract. The invariant: the choice is the best of those of the entries passed that walk otherwise.
-- Assumes nothing.
use mathlib.Core.Path.{◌≡◌, ap, ◌∙◌}
use mathlib.Core.Bool.{Bool, true, false, not, beq}
use mathlib.Core.List.{List}
use Prim.Native.Nat.{ℕ, ◌+◌, ◌/◌, ◌≤◌, ◌<◌}
use native.Mathlib.Omega.{arith}
use lib.ListN.{length, get_or, take}
use lib.Seq.{take_all}
use lib.Ieee.{Float}
use Rattle.rules.specs.Mesh.{face, faces_of}
use Rattle.rules.specs.Steps.{Step, walks}
use Rattle.std.specs.Prelude.{Option, None, Some}
use Rattle.rank.specs.declared.Choice.{Choice}
use Rattle.rank.specs.Ranks.{faces_in, count, value_of, pick, others, WalksAsks, BetterAsks, BetterGives, RankAsks, OtherGives}
use Rattle.rank.proofs.RankLaws.{pick_none, pick_snoc, faces_next, others_none, others_more, others_skip}
use Rattle.rank.proofs.scan_other.Invariants.{Inv}
use Rattle.rank.proofs.scan_other.Goals as goal
use Rattle.rank.proofs.scan_other.Goals.{else-walks-forward, then-walks-forward}

begin : {ps : List Float} {xs run : List ℕ} {e : Step} {f : Bool} → Inv ps xs run e f None 0
begin {ps} {xs} {run} {e} {f} = record { chosen = tt; picked = pick_none (count xs) (value_of ps xs) (count xs) ∙ ap (pick (count xs) (value_of ps xs) (count xs)) (others_none (faces_of xs) e f) }

module _ {ps : List Float} {xs run : List ℕ} {e : Step} {f : Bool} {b : Option Choice} {i : ℕ} (p : RankAsks ps xs run) (v : Inv ps xs run e f b i) (h : i < length run) where
  walks_ok : WalksAsks xs (get_or run i 0 / 3)
  walks_ok = record { whole = p.faces.whole; here = omega (arith, p.faces.whole, p.ids i h) }

  better_ok : BetterAsks ps xs b (get_or run i 0 / 3)
  better_ok = record { faces = p.faces; chosen = v.chosen; here = walks_ok.here }

  -- the face walks otherwise, and is held against the best so far
  keeps : {k : Bool} {r : Choice} → k ≡ walks (face (faces_of xs) (get_or run i 0 / 3)) e → not (beq k f) ≡ true → BetterGives ps xs b (get_or run i 0 / 3) r → Inv ps xs run e f (Some r) (i + 1)
  keeps w o g =
      record {
        chosen = g.chosen;
        picked = rw (faces_next run i h, others_more (faces_of xs) e f (faces_in (take i run)) (get_or run i 0 / 3) (rw (← w) o), pick_snoc (count xs) (value_of ps xs) (count xs) (others (faces_of xs) e f (faces_in (take i run))) (get_or run i 0 / 3), ← v.picked) g.picked;
      }

  -- it does not, and is passed over
  skips : {k : Bool} → k ≡ walks (face (faces_of xs) (get_or run i 0 / 3)) e → not (beq k f) ≡ false → Inv ps xs run e f b (i + 1)
  skips w o = record { chosen = v.chosen; picked = rw (faces_next run i h, others_skip (faces_of xs) e f (faces_in (take i run)) (get_or run i 0 / 3) (rw (← w) o)) v.picked }

done : {ps : List Float} {xs run : List ℕ} {e : Step} {f : Bool} {b : Option Choice} {i : ℕ} → Inv ps xs run e f b i → length run ≤ i → OtherGives ps xs run e f b
done {ps} {xs} {run} {e} {f} {b} {i} v h = record { chosen = v.chosen; picked = v.picked ∙ ap (λ l. pick (count xs) (value_of ps xs) (count xs) (others (faces_of xs) e f (faces_in l))) (take_all i run h) }

pub loop-id-init : goal.loop-id-init
loop-id-init c = begin

pub walks-requires : goal.walks-requires
walks-requires c = walks_ok c.requires c.loop-id.invariant c.loop-id-test.true

pub better-requires : goal.better-requires
better-requires c = better_ok c.requires c.loop-id.invariant c.loop-id-test.true

pub loop-id-preserved : goal.loop-id-preserved
loop-id-preserved c = let p = c.requires in
    elim c.if-walks-forward.branch [ then-walks-forward w ↦ rw w.best-is (keeps p c.loop-id.invariant c.loop-id-test.true c.walks.ensures w.if-walks-forward.true w.better.ensures) | else-walks-forward w ↦ rw w.best-is (skips p c.loop-id.invariant c.loop-id-test.true c.walks.ensures w.if-walks-forward.false) ]

pub returns : goal.returns
returns c = done c.loop-id.invariant c.loop-id-test.false
