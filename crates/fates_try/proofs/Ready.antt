-- What the four passes ask of rooms whose lengths and corners antt computes. Assumes nothing.
use mathlib.Core.Path.{◌≡◌}
use mathlib.Core.Bool.{true}
use mathlib.Core.List.{List}
use Prim.Native.Nat.{ℕ, ◌+◌, ◌*◌, ◌/◌, ◌%◌}
use native.Mathlib.Omega.{arith}
use lib.Dec.{leb}
use lib.Ieee.{Float}
use lib.ListN.{length}
use borrow.Author.Tests.{leb-true}
use Rattle.fates.specs.Fating.{FourAsks}
use Rattle.fates_try.proofs.Bounded.{within, bounded}

-- at most 100 points and faces, in rooms that are long enough
pub ready :
    (ps : List Float) (fs xs os w : List ℕ) (fates : ℕ) → length ps % 3 ≡ 0 → leb (length ps / 3) 100 ≡ true → leb (length os) 100 ≡ true → length fs ≡ 3 * length os
    → within fs (length fs) (length ps / 3) ≡ true → leb (length fs) (length xs) ≡ true → leb (29 * length os + 4 + length ps / 3) fates ≡ true → leb (fates + length os) (length w) ≡ true
    → FourAsks ps fs xs os w fates
ready ps fs xs os w fates a b c d e f g h =
    record {
      whole = a;
      points = omega (arith, leb-true (length ps / 3) 100 b);
      few = omega (arith, leb-true (length os) 100 c);
      input = d;
      inside = bounded fs (length fs) (length ps / 3) e;
      fit = leb-true (length fs) (length xs) f;
      behind = leb-true (29 * length os + 4 + length ps / 3) fates g;
      room = leb-true (fates + length os) (length w) h;
    }
