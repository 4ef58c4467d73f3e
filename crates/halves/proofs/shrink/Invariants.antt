-- `halves::shrink` meets its contract. The invariant: the buffer's first n entries are all those below h. Assumes nothing.
use mathlib.Core.Path.{◌≡◌}
use mathlib.Core.List.{List}
use Prim.Native.Nat.{ℕ, ◌≤◌, ◌<◌}
use lib.ListN.{length}
use Rattle.halves.specs.Walk.{Counts, Inside}
use Rattle.halves.proofs.shrink.Given as goal

-- the first n entries of the buffer are all those of the range up to h
pub record Inv (a₀ : List ℕ) (from to size : ℕ) (a : List ℕ) (h n : ℕ) : Type 0 where
  pub size_is : size ≡ length a₀
  pub long : length a ≡ length a₀
  pub above : from < h
  pub within : h ≤ to
  pub fewer : n ≤ size
  pub inside : Inside a 0 n from h
  pub counts : (g : ℕ → ℕ) → Counts g a₀ 0 (length a₀) from to → Counts g a 0 n from h

abbrev pub invariant-loop-n : goal.invariant-loop-n
invariant-loop-n l = Inv l.initial.buffer l.from l.to l.size l.buffer l.h l.n

abbrev pub decreases-loop-n : goal.decreases-loop-n
decreases-loop-n l = l.h
