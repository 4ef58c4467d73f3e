-- `resolve_directed_collisions::mark_rest` meets its contract: after k entries, their faces without one `one` are marked. Assumes nothing.
use mathlib.Core.Path.{◌≡◌}
use mathlib.Core.Bool.{Bool}
use mathlib.Core.List.{List}
use Prim.Native.Nat.{ℕ}
use Rattle.rows.specs.Region.{part}
use Rattle.rules.specs.Lists.{has}
use Rattle.rules.specs.Rank.{without}
use Rattle.rank.specs.Ranks.{faces_in}
use Rattle.marking.proofs.Adding.{Added}
use Rattle.resolve_directed_collisions.proofs.mark_rest.Given as goal

-- face i is lost by the first k entries
abbrev pub lost : List ℕ → ℕ → ℕ → ℕ → ℕ → Bool
lost w from one k i = has i (without one (faces_in (part w from k)))

-- k entries have passed, and `seen` says whether one of them is of `one`
pub record Seen (w₀ : List ℕ) (from len marks F one : ℕ) (w : List ℕ) (seen : Bool) (k : ℕ) : Type 0 where
  pub added : Added (lost w₀ from one) w₀ len marks F w k
  pub seen_is : seen ≡ has one (faces_in (part w₀ from k))

abbrev pub invariant-loop-k : goal.invariant-loop-k
invariant-loop-k l = Seen l.initial.work l.from l.len l.marks l.count l.one l.work l.seen l.k
