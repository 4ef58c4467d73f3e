-- `rank_try::main` meets what its calls ask: antt computes the lengths, the corners and the entries. Assumes nothing.
use mathlib.Core.Path.{◌≡◌, refl}
use mathlib.Core.Bool.{true}
use mathlib.Core.List.{List}
use Prim.Native.Nat.{ℕ}
use native.Mathlib.Omega.{arith}
use lib.Ieee.{Float}
use lib.ListN.{length}
use Rattle.rank.specs.Ranks.{RankAsks}
use Rattle.rank_try.proofs.Bounded.{within, bounded}
use Rattle.rank_try.proofs.main.Goals as goal

-- five faces over six points, and a run of entries of theirs
ready : (ps : List Float) (xs run : List ℕ) → length ps ≡ 18 → length xs ≡ 15 → within xs 15 6 ≡ true → within run (length run) 15 ≡ true → RankAsks ps xs run
ready ps xs run l k e f = record {
  faces = record { whole = rw k refl; corners = λ i h. rw l (bounded xs 15 6 e i (omega arith)) };
  ids = λ i h. rw k (bounded run (length run) 15 f i h);
}

pub ranked-requires : goal.ranked-requires
ranked-requires c = record { rank_asks = ready _ _ _ refl refl refl refl; in_bounds = omega arith }

pub ranked-requires-2 : goal.ranked-requires-2
ranked-requires-2 c = record { rank_asks = ready _ _ _ refl refl refl refl; in_bounds = omega arith }

pub ranked-requires-3 : goal.ranked-requires-3
ranked-requires-3 c = record { rank_asks = ready _ _ _ refl refl refl refl; in_bounds = omega arith }

pub ranked-requires-4 : goal.ranked-requires-4
ranked-requires-4 c = record { rank_asks = ready _ _ _ refl refl refl refl; in_bounds = omega arith }
