-- That a small mesh in its rooms is as the rows of pass 5 ask, computed. Assumes nothing.
use mathlib.Core.Path.{◌≡◌, refl, sym}
use mathlib.Core.Bool.{Bool, true, false, ◌&&◌, true≢false}
use mathlib.Core.List.{List}
use Prim.Native.Nat.{ℕ, zero, suc, ◌+◌, ◌*◌, ◌<◌}
use native.Mathlib.Omega.{arith}
use borrow.Author.Count.{below_more}
use borrow.Author.Tests.{ltb-true, leb-true}
use lib.Dec.{leb, ltb}
use lib.ListN.{length, get_or}
use Rattle.rules.specs.Refusal.{most_points, most_faces}
use Rattle.split_bowtie_vertices.specs.Splits.{taken}
use Rattle.split_rows.specs.Rows.{SplitAsks}

-- the test p of each number below n
abbrev each : (ℕ → Bool) → ℕ → Bool
each p zero = true
each p (suc n) = p n && each p n

-- two tests that are both true
both : (a b : Bool) → (a && b) ≡ true → (a ≡ true) × (b ≡ true)
both true b e = (refl, e)
both false b e = absurd (true≢false (sym e))

-- a test of each holds of any
passes : (p : ℕ → Bool) (n : ℕ) → each p n ≡ true → (i : ℕ) → i < n → p i ≡ true
passes p zero e i h = absurd (omega arith)
passes p (suc n) e i h =
    let b = both (p n) (each p n) e in
    below_more (λ i. p i ≡ true) n (passes p n b.1) b.0 i (omega arith)

-- few points and faces, corners that are points, and a long enough room
abbrev fine : List ℕ → ℕ → ℕ → List ℕ → ℕ → Bool
fine xs n P w olds =
    leb P most_points && (leb n most_faces && (leb (3 * n) (length xs) && (each (λ i. ltb (get_or xs i 0) P) (3 * n) && (leb (taken P n) olds && leb (olds + 3 * n) (length w)))))

-- such a mesh is as the rows of pass 5 ask
pub ready : (xs : List ℕ) (n P : ℕ) (w : List ℕ) (olds : ℕ) → fine xs n P w olds ≡ true → SplitAsks xs n P w olds
ready xs n P w olds e =
    let a = both (leb P most_points) _ e in
    let b = both (leb n most_faces) _ a.1 in
    let c = both (leb (3 * n) (length xs)) _ b.1 in
    let d = both (each (λ i. ltb (get_or xs i 0) P) (3 * n)) _ c.1 in
    let f = both (leb (taken P n) olds) _ d.1 in
    let g = leb-true (taken P n) olds f.0 in
    let h = leb-true (olds + 3 * n) (length w) f.1 in
    record {
      stand = record {
        points = leb-true P most_points a.0;
        few = leb-true n most_faces b.0;
        fit = leb-true (3 * n) (length xs) c.0;
        inside = λ i h. ltb-true (get_or xs i 0) P (passes (λ i. ltb (get_or xs i 0) P) (3 * n) d.0 i h);
        room = omega arith;
      };
      behind = g;
      room = h;
    }
