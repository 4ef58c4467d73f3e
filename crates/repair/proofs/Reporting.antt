-- The counts written to the front of the report room, one after the other. Assumes nothing.
use mathlib.Core.Path.{◌≡◌, refl, ◌∙◌}
use mathlib.Core.List.{List}
use Prim.Native.Nat.{ℕ, ◌+◌, ◌^◌, ◌≤◌, ◌<◌}
use native.Mathlib.Nat.{zero-add}
use native.Mathlib.Omega.{arith}
use lib.ListN.{length, get_or, set}
use Rattle.rows.specs.Region.{Only, Holds}
use Rattle.rows.proofs.Regions.{part_eq, only_none, only_next, holds_none, holds_next}
use Rattle.rules.specs.State.{report_counts}
use Rattle.lending.specs.declared.Report.{Report}
use Rattle.lending.specs.Reports.{counts_of}
use Rattle.repair.specs.Answers.{ReportAsks, ReportGives}

-- after k counts they stand in front, and nothing else is changed
pub record Wrote (r₀ counts r : List ℕ) (k : ℕ) : Type 0 where
  pub at_most : k ≤ report_counts
  pub only : Only 0 k r₀ r
  pub holds : Holds 0 k (λ i. get_or counts i 0) r

-- what a turn needs: a count that is a number of 32 bits, and room for it
pub record Turn (counts : Report) (r : List ℕ) (k : ℕ) : Type 0 where
  pub few : get_or (counts_of counts) k 0 < 2 ^ 32
  pub room : k < length r

-- before the first turn nothing is changed
pub begin : (r counts : List ℕ) → Wrote r counts r 0
begin r counts = record { at_most = omega arith; only = only_none 0 0 r; holds = holds_none }

module _ {r₀ : List ℕ} {counts : Report} {r : List ℕ} {k : ℕ} (p : ReportAsks r₀ counts) (v : Wrote r₀ (counts_of counts) r k) where
  -- the room is as long as it was
  pub turn : k < report_counts → Turn counts r k
  turn h =
      let l = v.only.long in
      record { few = p.few.each k h; room = omega (arith, p.room) }

  -- one count more stands behind the others
  pub again : k < report_counts → Wrote r₀ (counts_of counts) (set r k (get_or (counts_of counts) k 0)) (k + 1)
  again h =
      let t = (turn h).room in
      record {
        at_most = omega arith;
        only = rw (zero-add k) at (only_next (get_or (counts_of counts) k 0) v.only);
        holds = rw (zero-add k) at (holds_next (get_or (counts_of counts) k 0) (omega arith) refl v.holds);
      }

  -- after all of them the room has the report
  pub done : report_counts ≤ k → ReportGives r₀ counts r
  done h =
      let e : k ≡ report_counts = omega (arith, v.at_most) in
      let l = v.only.long in
      record {
        only = rw e at v.only;
        written = part_eq r (counts_of counts) 0 0 report_counts (omega (arith, p.room)) (omega arith) (λ i q. v.holds.each i (omega arith) ∙ rw (zero-add i) refl);
      }
