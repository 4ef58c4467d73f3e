-- `list_text::number_length` meets its contract: the digits counted and those of what is left are one more than the number's. Assumes nothing.
use mathlib.Core.Path.{◌≡◌}
use Prim.Native.Nat.{ℕ, ◌+◌, ◌^◌, ◌<◌}
use lib.ListN.{length}
use Rattle.rules.specs.Line.{decimal}
use Rattle.list_text.proofs.number_length.Given as goal

pub record Inv (n m k : ℕ) : Type 0 where
  pub small : m < 10 ^ 10
  pub sum : k + length (decimal m) ≡ length (decimal n) + 1

abbrev pub invariant-loop-m : goal.invariant-loop-m
invariant-loop-m l = Inv l.n l.m l.k

abbrev pub decreases-loop-m : goal.decreases-loop-m
decreases-loop-m l = l.m
