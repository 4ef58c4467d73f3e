-- What a run asks, and that it is enough. Assumes nothing.
use mathlib.Core.Path.{◌≡◌}
use mathlib.Core.Bool.{true}
use mathlib.Core.List.{List}
use Prim.Native.Nat.{ℕ, ◌*◌, ◌≤◌}
use native.Mathlib.Omega.{arith}
use lib.ListN.{length}
use Rattle.leaving.specs.Pass.{FacesStand}
use Rattle.orient_consistently.specs.Walked.{taken}
use Rattle.orient_consistently_try.specs.Asks.{RunAsks}
use Rattle.orient_consistently_try.proofs.Bounded.{within, bounded}

-- a work room of 464 entries is enough for them
pub stand : {xs w : List ℕ} {n P : ℕ} → RunAsks xs n P → length w ≡ 464 → FacesStand (taken P n) P xs n w
stand a l = record { points = omega (arith, a.points); few = omega (arith, a.few); fit = a.fit; inside = a.inside; room = omega (arith, a.few, a.points) }

-- corners that are computed
pub ready : (xs : List ℕ) (n P : ℕ) → n ≤ 5 → P ≤ 5 → 3 * n ≤ length xs → within xs (3 * n) P ≡ true → RunAsks xs n P
ready xs n P a b c e = record { few = a; points = b; fit = c; inside = bounded xs (3 * n) P e }
