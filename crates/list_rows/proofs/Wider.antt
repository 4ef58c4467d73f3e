-- What is changed in two regions is changed in one that has both. Assumes nothing.
use mathlib.Core.List.{List}
use Prim.Native.Nat.{ℕ, ◌+◌, ◌≤◌}
use native.Mathlib.Omega.{arith}
use Rattle.rows.specs.Region.{Out, Out.below, Out.above, Only, Only2}

-- both end before N
pub only_two : {a n b m N : ℕ} {w w' : List ℕ} → a + n ≤ N → b + m ≤ N → Only2 a n b m w w' → Only 0 N w w'
only_two {a} {n} {b} {m} {N} h k o = record { long = o.long; same = λ j q. o.same j (out h q) (out k q) }
  where
    out : {c l j : ℕ} → c + l ≤ N → Out 0 N j → Out c l j
    out q (below z) = absurd (omega arith)
    out q (above z) = above (omega arith)
