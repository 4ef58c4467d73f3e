-- The marks that the directed edge of one run adds. Assumes nothing.
use mathlib.Core.Path.{◌≡◌, refl, sym, ap, ◌∙◌}
use mathlib.Core.Bool.{true, false}
use mathlib.Core.List.{List, [], ◌∷◌}
use Prim.Native.Nat.{ℕ, ◌-◌, ◌/◌, ◌≤◌}
use native.Mathlib.Omega.{arith}
use native.Mathlib.Nat.{le_of_suc-le-suc, not-suc-le-zero}
use borrow.Author.Tests.{eq-eqb}
use lib.ListN.{length, length-map}
use lib.Ieee.{Float}
use Rattle.rows.proofs.Regions.{only_none}
use Rattle.rules.specs.Lists.{any, has, through}
use Rattle.rules.specs.Mesh.{faces_of, points_of}
use Rattle.rules.specs.Steps.{walkers}
use Rattle.rules.specs.Rank.{best, without}
use Rattle.rules.specs.Pass4.{marked4}
use Rattle.rule_laws.proofs.Flat.{length_points}
use Rattle.table.specs.Entries.{keys_of}
use Rattle.table.proofs.Ids.{directed_keys}
use Rattle.rank.specs.Ranks.{faces_in, value_of, BestGives}
use Rattle.marking.specs.Marking.{point_count, face_count, edge_at, RunAsks, LostGives}
use Rattle.marking.proofs.Reading.{from, next, handed_on, region, handed_region, run_long, run_walkers}
use Rattle.marking.proofs.Running.{lost_among}
use Rattle.resolve_directed_collisions.specs.Collisions.{after_first}

-- of at most one entry none comes after the first
pub none_after : (q : ℕ → Float) (us : List ℕ) (i : ℕ) → length us ≤ 1 → has i (without (best q us) us) ≡ false
unfolding has any without best through
none_after q [] i h = refl
none_after q (u ∷ []) i h = rw (eq-eqb u u refl)
none_after q (u ∷ v ∷ us) i h = absurd (not-suc-le-zero (le_of_suc-le-suc h))

module _ {ps : List Float} {xs w : List ℕ} {marks r : ℕ} (p : RunAsks true ps xs w marks r) where
  -- as many entries as walkers
  walkers_long : length (walkers (faces_of xs) (edge_at true ps xs r)) ≡ next xs w r - from xs w r
  walkers_long = ap length (sym (run_walkers p)) ∙ length-map (handed_on xs w r) (λ id. id / 3) ∙ run_long p

  -- a directed edge that is used once: nothing is lost
  pub one_use : next xs w r - from xs w r ≤ 1 → LostGives (after_first (value_of ps xs) (faces_of xs) (edge_at true ps xs r)) w marks (face_count xs) w
  one_use h =
      record {
        only = only_none _ _ _;
        added = record { each = λ i q. rw (none_after (value_of ps xs) (walkers (faces_of xs) (edge_at true ps xs r)) i (omega (arith, walkers_long))) };
      }

  -- one that is used more often: all entries but one of the first in rank are lost
  pub more_uses : {one : ℕ} {w' : List ℕ} → BestGives ps xs (handed_on xs w r) one → LostGives (λ i. has i (without one (faces_in (region xs w r)))) w marks (face_count xs) w' → LostGives (after_first (value_of ps xs) (faces_of xs) (edge_at true ps xs r)) w marks (face_count xs) w'
  more_uses b g =
      let u : faces_in (region xs w r) ≡ walkers (faces_of xs) (edge_at true ps xs r) = ap faces_in (sym (handed_region p)) ∙ run_walkers p in
      record { only = g.only; added = record { each = λ i q. g.added.each i q ∙ rw (u, b.first, run_walkers p) } }

-- what the rules mark is what is lost at one of the directed edges
pub lost_marked : (ps : List Float) (xs : List ℕ) (i : ℕ) → lost_among (after_first (value_of ps xs) (faces_of xs)) (keys_of true (point_count ps) (faces_of xs)) i ≡ marked4 (points_of ps) (faces_of xs) i
unfolding marked4
lost_marked ps xs i = rw (directed_keys (point_count ps) (faces_of xs), length_points ps)
