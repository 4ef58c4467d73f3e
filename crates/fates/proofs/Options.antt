-- The bits of the options, and what each pass takes of the work room. Assumes nothing.
use mathlib.Core.Path.{◌≡◌}
use mathlib.Core.Bool.{true, false}
use Prim.Native.Nat.{ℕ, ◌/◌, ◌%◌, ◌^◌, ◌≤◌}
use native.Mathlib.Omega.{arith}
use borrow.Author.Tests.{eq-eqb, ne_eqb}
use Rattle.rules.specs.Repair.{bit}
use Rattle.drop_duplicate_faces.specs.Keys as keys
use Rattle.marking.specs.Marking as marking
use Rattle.orient_consistently.specs.Walked as walked
use Rattle.fates.specs.Fating.{Rooms, points_in, scratch, Stands}

-- an option that is set
pub bit_set : (k o : ℕ) → o / 2 ^ k % 2 ≡ 1 → bit k o ≡ true
unfolding bit
bit_set k o e = eq-eqb (o / 2 ^ k % 2) 1 e

-- an option that is not
pub bit_clear : (k o : ℕ) → (o / 2 ^ k % 2 ≡ 1 → ⊥) → bit k o ≡ false
unfolding bit
bit_clear k o e = ne_eqb (o / 2 ^ k % 2) 1 e

-- bit 0 is the lowest digit
pub lowest : (o : ℕ) → o / 2 ^ 0 % 2 ≡ o % 2
lowest o = omega arith

module _ {most : ℕ} {r : Rooms} (a : Stands most r) where
  -- pass 1
  pub takes1 : r.n ≤ scratch r
  takes1 = omega (arith, a.own)

  -- pass 2
  pub takes2 : keys.taken (points_in r) r.n ≤ scratch r
  takes2 = omega (arith, a.own)

  -- pass 3, and the second half of pass 4
  pub takes3 : marking.taken (points_in r) r.n ≤ scratch r
  takes3 = omega (arith, a.own)

  -- the first half of pass 4
  pub takes4 : walked.taken (points_in r) r.n ≤ scratch r
  takes4 = omega (arith, a.own)
