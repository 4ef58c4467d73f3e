-- `resolve_nonmanifold_edges::mark_others` meets its contract: after k entries, their faces but for the two are marked. Assumes nothing.
use mathlib.Core.Bool.{Bool}
use mathlib.Core.List.{List}
use Prim.Native.Nat.{ℕ}
use Rattle.rows.specs.Region.{part}
use Rattle.rank.specs.Ranks.{faces_in}
use Rattle.marking.proofs.Adding.{Added}
use Rattle.resolve_nonmanifold_edges.specs.Crowds.{lost_of}
use Rattle.resolve_nonmanifold_edges.proofs.mark_others.Given as goal

-- face i is lost by the first k entries
abbrev pub lost : List ℕ → ℕ → ℕ → ℕ → ℕ → ℕ → Bool
lost w from one two k i = lost_of (faces_in (part w from k)) one two i

abbrev pub invariant-loop-k : goal.invariant-loop-k
invariant-loop-k l = Added (lost l.initial.work l.from l.one l.two) l.initial.work l.len l.marks l.count l.work l.k
