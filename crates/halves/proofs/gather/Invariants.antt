-- `halves::gather` meets its contract. The invariant: the buffer holds the half entries of the first i steps with keys from `from` up to `to`. Assumes nothing.
use mathlib.Core.Path.{◌≡◌}
use mathlib.Core.List.{List}
use Prim.Native.Nat.{ℕ, ◌≤◌, ◌<◌}
use lib.ListN.{length}
use Rattle.halves.specs.Walk.{Counts}
use Rattle.halves.specs.Gather.{halves, Holding}
use Rattle.halves.proofs.gather.Given as goal

-- the half entries of the first i steps are counted
pub record Inv (P : ℕ) (f : List ℕ) (from top : ℕ) (a₀ : List ℕ) (size : ℕ) (a : List ℕ) (to n i : ℕ) : Type 0 where
  pub size_is : size ≡ length a₀
  pub at_most : i ≤ length f
  pub holding : Holding size from top a n to
  pub going : n < size
  pub counts : Counts (halves f P i) a 0 n from to

abbrev pub invariant-loop-i : goal.invariant-loop-i
invariant-loop-i l = Inv l.points l.faces l.from l.top l.initial.buffer l.size l.buffer l.to l.n l.i
