-- What the passes ask of rooms whose lengths and corners antt computes. Assumes nothing.
use mathlib.Core.Path.{◌≡◌}
use mathlib.Core.Bool.{true}
use mathlib.Core.List.{List}
use Prim.Native.Nat.{ℕ, ◌*◌}
use native.Mathlib.Omega.{arith}
use lib.Dec.{leb}
use lib.Ieee.{Float}
use lib.ListN.{length}
use borrow.Author.Tests.{leb-true}
use Rattle.leaving.specs.Pass.{FacesStand}
use Rattle.drop_isolated_vertices.specs.Unused.{UnusedAsks}
use Rattle.drops_try.proofs.Bounded.{within, bounded}

-- n faces over P points, in a work room that is long enough
pub stands : (taken P : ℕ) (xs : List ℕ) (n : ℕ) (w : List ℕ) → leb P 100 ≡ true → leb n 100 ≡ true → leb (3 * n) (length xs) ≡ true → within xs (3 * n) P ≡ true → leb taken (length w) ≡ true → FacesStand taken P xs n w
stands taken P xs n w a b c d e =
    record {
      points = omega (arith, leb-true P 100 a);
      few = omega (arith, leb-true n 100 b);
      fit = leb-true (3 * n) (length xs) c;
      inside = bounded xs (3 * n) P d;
      room = leb-true taken (length w) e;
    }

-- the points of pass 6, of which P stand at the front
pub unused : (ps : List Float) (P : ℕ) (xs : List ℕ) (n : ℕ) (w : List ℕ) → leb (3 * P) (length ps) ≡ true → leb (3 * n) (length xs) ≡ true → within xs (3 * n) P ≡ true → leb (2 * P) (length w) ≡ true → leb P 100 ≡ true → UnusedAsks ps P xs n w
unused ps P xs n w a b c d e =
    record {
      points_fit = leb-true (3 * P) (length ps) a;
      fit = leb-true (3 * n) (length xs) b;
      inside = bounded xs (3 * n) P c;
      room = leb-true (2 * P) (length w) d;
      few = omega (arith, leb-true P 100 e);
    }
