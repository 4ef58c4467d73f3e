-- `entry_search::count_entries` meets its contract. The invariant: the entries of the faces that were passed are counted. Assumes nothing.
use Prim.Native.Nat.{◌-◌}
use lib.ListN.{length}
use Rattle.entry_search.proofs.Counting.{Counted}
use Rattle.entry_search.proofs.count_entries.Given as goal

abbrev pub invariant-loop-f : goal.invariant-loop-f
invariant-loop-f l = Counted l.faces l.words l.directed l.a l.b l.n l.f

abbrev pub decreases-loop-f : goal.decreases-loop-f
decreases-loop-f l = length l.words - l.f
