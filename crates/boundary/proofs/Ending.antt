-- The verdict: 7 by the runs, 8 by the rows, or none. Assumes nothing.
use mathlib.Core.Path.{◌≡◌, sym, ap, ◌∙◌}
use mathlib.Core.List.{List, [], ◌∷◌}
use Prim.Native.Nat.{ℕ, ◌+◌, ◌*◌, ◌≤◌}
use native.Mathlib.Nat.{add_assoc}
use native.Mathlib.Omega.{arith}
use lib.ListN.{length, get_or}
use Rattle.rows.specs.Region.{Only, Filled, Apart.before}
use Rattle.rows.proofs.Regions.{only_none, only_both, only_more, holds_kept}
use Rattle.rules.specs.Lists.{count, filter}
use Rattle.rules.specs.Mesh.{faces_of}
use Rattle.rules.specs.Refusal.{ok, decided}
use Rattle.rules.specs.Edges.{no7, no8}
use Rattle.rule_laws.proofs.Decided.{decided_all}
use Rattle.std.specs.Prelude.{Ok, Err}
use Rattle.refuse.proofs.Groups.{hand_on}
use Rattle.refuse.specs.Verdicts.{number_of, place_of}
use Rattle.refuse.specs.declared.Refusal.{Refusal}
use Rattle.refuse.specs.declared.Refusal.TheVariants.{CrowdedEdge, BadBoundary}
use Rattle.table.proofs.Places.{tabled_kept}
use Rattle.boundary.specs.Rows.{NoneOf, FirstAt, long, uneven, onward, Counted, TraceAsks, TraceGives, CrowdAsks, CrowdGives, BoundaryAsks, BoundaryGives}
use Rattle.boundary.proofs.Uses.{runs_few, seven_none, seven_found}
use Rattle.boundary.proofs.Faults.{eight_none, eight_found, next_row}

-- ---- rows that say what is so of no edges

-- two rows of zeros, and one of P
none_counted : {w : List ℕ} {P row : ℕ} → Filled row (2 * P) 0 w → Filled (row + 2 * P) P P w → Counted P row [] w
unfolding count filter onward
none_counted {w} {P} {row} z f =
    record {
      begins = record { each = λ v l. z.each v (omega arith) };
      ends = record { each = λ v l. ap (λ k. get_or w k 0) (add_assoc row P v) ∙ z.each (P + v) (omega arith) };
      next = λ v l k. f.each v l;
    }

-- ---- the call

module _ {w xs : List ℕ} {at m : ℕ} (p : CrowdAsks w xs at m) where
  -- there is one beginning more than runs
  pub starts_fit : at + 4 * length xs + m + 1 ≤ length w
  starts_fit = omega (arith, runs_few p.tabled, p.tabled.asks.fit)

-- 7 where a run is long
pub crowd_seven : {w xs : List ℕ} {at m r : ℕ} → FirstAt (long w (at + 4 * length xs)) m r → (q : CrowdAsks w xs at m) → CrowdGives q (Err (CrowdedEdge r))
unfolding decided
crowd_seven f q = rw (seven_found q.tabled f)

-- and nothing where none is
pub crowd_none : {w xs : List ℕ} {at m : ℕ} → NoneOf (long w (at + 4 * length xs)) m → (q : CrowdAsks w xs at m) → CrowdGives q (Ok tt)
unfolding decided
crowd_none f q = rw (seven_none q.tabled f)

module _ {w xs : List ℕ} {P at m row : ℕ} (p : BoundaryAsks w xs P at m row) where
  -- what 7 asks
  abbrev pub crowd-asks : CrowdAsks w xs at m
  crowd-asks = record { P = P; tabled = p.tabled }

  -- 7, and nothing is written
  pub refused_seven : (e : Refusal) → ((q : CrowdAsks w xs at m) → CrowdGives q (Err e)) → BoundaryGives w xs P at m row w (Err e)
  refused_seven e s =
      record {
        only = only_none row (3 * P) w;
        tabled = p.tabled;
        says = hand_on (no7 P (faces_of xs) ∷ []) (no8 P (faces_of xs) ∷ []) (number_of e) (place_of e) (s crowd-asks);
        next = λ q. absurd (cc);
      }

  module _ (s : (q : CrowdAsks w xs at m) → CrowdGives q (Ok tt)) where
    -- where 7 is not given
    calm : no7 P (faces_of xs) ≡ ok
    calm = (decided_all (no7 P (faces_of xs) ∷ []) (sym (s crowd-asks))).0

    module _ {w₁ w₂ : List ℕ} (o₁ : Only row (2 * P) w w₁) (z : Filled row (2 * P) 0 w₁) (o₂ : Only (row + 2 * P) P w₁ w₂) (g : Filled (row + 2 * P) P P w₂) where
      -- the rows are written and nothing else
      both : Only row (3 * P) w w₂
      both = only_both (only_more (omega arith) (omega arith) o₁) (only_more (omega arith) (omega arith) o₂)

      -- they say what is so of no edges
      pub trace_asks : TraceAsks w₂ xs P at m row
      trace_asks =
          record {
            points = p.points;
            tabled = tabled_kept both p.apart p.tabled;
            fit = omega (arith, p.fit, both.long);
            apart = p.apart;
            counted = none_counted (holds_kept o₂ (before (omega arith)) z) g;
          }

      module _ {w₃ : List ℕ} (t : TraceGives w₂ xs P at row w₃) where
        -- still only the rows
        all_only : Only row (3 * P) w w₃
        all_only = only_both both t.only

        -- the rows are there
        pub rows_fit : row + P + P ≤ length w₃
        rows_fit = omega (arith, p.fit, all_only.long)

        -- 8
        pub refused_eight : {v : ℕ} → FirstAt (uneven w₃ row (row + P)) P v → BoundaryGives w xs P at m row w₃ (Err (BadBoundary v))
        unfolding decided
        refused_eight u =
            record {
              only = all_only;
              tabled = tabled_kept all_only p.apart p.tabled;
              says = rw (calm, eight_found xs t.counted u);
              next = λ q. absurd (cc);
            }

        -- or nothing
        pub fine : NoneOf (uneven w₃ row (row + P)) P → BoundaryGives w xs P at m row w₃ (Ok tt)
        unfolding decided
        fine u =
            record {
              only = all_only;
              tabled = tabled_kept all_only p.apart p.tabled;
              says = rw (calm, eight_none xs t.counted u);
              next = λ q. next_row xs t.counted u;
            }
