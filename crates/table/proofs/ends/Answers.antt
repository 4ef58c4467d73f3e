-- `table::ends` meets its contract: of two ends the lower one is the least. Assumes nothing.
use mathlib.Core.Path.{◌≡◌, refl, sym}
use mathlib.Core.Bool.{Bool, true, false, true≢false}
use mathlib.Core.Logic.{◌⊎◌, inl, inr}
use Prim.Native.Nat.{ℕ, ◌≤◌, ◌<◌}
use native.Mathlib.Omega.{arith}
use Rattle.rules.specs.Steps.{Step, step, edge}
use Rattle.table.specs.Entries.{under}
use Rattle.table.proofs.ends.Goals as goal

-- the two numbers are the ends of what the step is under
record Ends (x y : ℕ) (s : Step) : Type 0 where
  first : x ≡ s.from
  second : y ≡ s.to

as_it_goes : (d : Bool) (x y : ℕ) → (d ≡ true) ⊎ ((d ≡ false) × (x ≤ y)) → Ends x y (under d (step x y))
unfolding edge
as_it_goes true x y e = record { first = refl; second = refl }
as_it_goes false x y (inl e) = absurd (true≢false (sym e))
as_it_goes false x y (inr h) = record { first = omega (arith, h); second = omega (arith, h) }

turned : (d : Bool) (x y : ℕ) → d ≡ false → y < x → Ends y x (under d (step x y))
unfolding edge
turned true x y e h = absurd (true≢false e)
turned false x y e h = record { first = omega arith; second = omega arith }

pub returns-then-x-y : goal.returns-then-x-y
returns-then-x-y c = let e = as_it_goes c.args.directed c.args.x c.args.y c.if-x-y.either in record { first = e.first; second = e.second }

pub returns-else-x-y : goal.returns-else-x-y
returns-else-x-y c = let e = turned c.args.directed c.args.x c.args.y c.if-x-y.false.0 c.if-x-y.false.1 in record { first = e.first; second = e.second }
