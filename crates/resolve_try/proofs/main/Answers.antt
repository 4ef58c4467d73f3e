-- `resolve_try::main` meets what its calls ask: antt computes the lengths and the corners. Assumes nothing.
use mathlib.Core.Path.{◌≡◌, refl}
use mathlib.Core.List.{List}
use Prim.Native.Nat.{ℕ, ◌*◌, ◌/◌, ◌≤◌}
use native.Mathlib.Omega.{arith}
use lib.Dec.{T, ltb, ltb→lt}
use lib.Ieee.{Float}
use lib.ListN.{length, get_or, take}
use lib.Seq.{get_or-take, length-take-le}
use Rattle.rules.specs.Lists.{all}
use Rattle.rule_laws.proofs.Rising.{all_at}
use Rattle.rule_laws.proofs.Members.{all_elim}
use Rattle.leaving.specs.Pass.{PassAsks}
use Rattle.marking.specs.Marking.{taken}
use Rattle.resolve_try.proofs.main.Goals as goal

-- at most five faces over five points, and a work room of 600 entries
ready : (ps : List Float) (xs : List ℕ) (n k : ℕ) (w : List ℕ) → length ps ≡ 15 → length xs ≡ k → 3 * n ≤ k → n ≤ 5 → T (all (λ x. ltb x 5) (take (3 * n) xs)) → length w ≡ 600 → PassAsks (taken (length ps / 3) n) ps xs n w
ready ps xs n k w p x h few a l =
    record {
      whole = rw p refl;
      stand = record {
        points = omega arith;
        few = omega arith;
        fit = omega arith;
        inside = λ i q.
            let f : 3 * n ≤ length xs = omega arith in
            let t = length-take-le (3 * n) xs f in
            let b = all_at (λ y. T (ltb y 5)) (take (3 * n) xs) 0 i (all_elim (λ y. ltb y 5) (take (3 * n) xs) a) (omega arith) in
            rw p (ltb→lt (get_or xs i 0) 5 (rw (get_or-take (3 * n) xs i 0 q) at b));
        room = omega arith;
      };
    }

pub edges-requires : goal.edges-requires
unfolding all
edges-requires c = record { pass_asks = ready _ _ 1 _ _ refl refl (omega arith) (omega arith) tt refl; n_in_bounds = omega arith }

pub collisions-requires : goal.collisions-requires
unfolding all
collisions-requires c = record { pass_asks = ready _ _ 1 _ _ refl refl (omega arith) (omega arith) tt refl; n_in_bounds = omega arith }

pub edges-requires-2 : goal.edges-requires-2
unfolding all
edges-requires-2 c = record { pass_asks = ready _ _ 3 _ _ refl refl (omega arith) (omega arith) tt refl; n_in_bounds = omega arith }

pub edges-requires-3 : goal.edges-requires-3
unfolding all
edges-requires-3 c = record { pass_asks = ready _ _ 3 _ _ refl refl (omega arith) (omega arith) tt refl; n_in_bounds = omega arith }

pub edges-requires-4 : goal.edges-requires-4
unfolding all
edges-requires-4 c = record { pass_asks = ready _ _ 4 _ _ refl refl (omega arith) (omega arith) tt refl; n_in_bounds = omega arith }

pub collisions-requires-2 : goal.collisions-requires-2
unfolding all
collisions-requires-2 c = record { pass_asks = ready _ _ 3 _ _ refl refl (omega arith) (omega arith) tt refl; n_in_bounds = omega arith }

pub collisions-requires-3 : goal.collisions-requires-3
unfolding all
collisions-requires-3 c = record { pass_asks = ready _ _ 3 _ _ refl refl (omega arith) (omega arith) tt refl; n_in_bounds = omega arith }

pub collisions-requires-4 : goal.collisions-requires-4
unfolding all
collisions-requires-4 c = record { pass_asks = ready _ _ 5 _ _ refl refl (omega arith) (omega arith) tt refl; n_in_bounds = omega arith }
