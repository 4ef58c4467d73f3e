-- That a table of runs is as `flood` asks, computed. Assumes nothing.
use mathlib.Core.Path.{◌≡◌, refl, sym}
use mathlib.Core.Bool.{Bool, true, false, ◌&&◌, true≢false}
use mathlib.Core.List.{List}
use Prim.Native.Nat.{ℕ, zero, suc, ◌+◌, ◌^◌, ◌<◌}
use native.Mathlib.Omega.{arith}
use borrow.Author.Count.{below_more}
use borrow.Author.Tests.{ltb-true, leb-true}
use lib.Dec.{leb, ltb}
use lib.ListN.{length}
use Rattle.rows.specs.Region.{Apart.before}
use Rattle.flood.specs.Plan.{Plan, begins, thing, FloodAsks}

-- the test p of each number below n
abbrev each : (ℕ → Bool) → ℕ → Bool
each p zero = true
each p (suc n) = p n && each p n

-- two tests that are both true
both : (a b : Bool) → (a && b) ≡ true → (a ≡ true) × (b ≡ true)
both true b e = (refl, e)
both false b e = absurd (true≢false (sym e))

-- a test of each holds of any
passes : (p : ℕ → Bool) (n : ℕ) → each p n ≡ true → (i : ℕ) → i < n → p i ≡ true
passes p zero e i h = absurd (omega arith)
passes p (suc n) e i h =
    let b = both (p n) (each p n) e in
    below_more (λ i. p i ≡ true) n (passes p n b.1) b.0 i (omega arith)

-- the starts, the order and the labels stand in this order within the row; the starts rise, and the order has things
abbrev fine : List ℕ → Plan → Bool
fine w g =
    leb g.things (2 ^ 32) && (leb (g.labels + g.things) (length w) && (leb (g.starts + (g.runs + 1)) g.order && (leb (g.order + begins w g g.runs) g.labels
    && (each (λ r. leb (begins w g r) (begins w g (r + 1))) g.runs && each (λ p. ltb (thing w g p) g.things) (begins w g g.runs)))))

-- such a table is as `flood` asks
pub ready : (w : List ℕ) (g : Plan) → fine w g ≡ true → FloodAsks w g
ready w g e =
    let few = both (leb g.things (2 ^ 32)) _ e in
    let labels = both (leb (g.labels + g.things) (length w)) _ few.1 in
    let starts = both (leb (g.starts + (g.runs + 1)) g.order) _ labels.1 in
    let order = both (leb (g.order + begins w g g.runs) g.labels) _ starts.1 in
    let runs = both (each (λ r. leb (begins w g r) (begins w g (r + 1))) g.runs) _ order.1 in
    let labels_fit = leb-true (g.labels + g.things) (length w) labels.0 in
    let starts_fit = leb-true (g.starts + (g.runs + 1)) g.order starts.0 in
    let order_fit = leb-true (g.order + begins w g g.runs) g.labels order.0 in
    record {
      few = leb-true g.things (2 ^ 32) few.0;
      labels_fit = labels_fit;
      starts_fit = omega arith;
      starts_apart = before (omega arith);
      rising = λ r h. leb-true (begins w g r) (begins w g (r + 1)) (passes (λ r. leb (begins w g r) (begins w g (r + 1))) g.runs runs.0 r h);
      order_fit = omega arith;
      order_apart = before order_fit;
      inside = λ p l h. ltb-true (thing w g p) g.things (passes (λ p. ltb (thing w g p) g.things) (begins w g g.runs) runs.1 p h);
    }
