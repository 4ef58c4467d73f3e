-- `split_bowtie_vertices::copies` meets its contract. The invariant: j copies stand behind the points. Assumes nothing.
use mathlib.Core.Path.{◌≡◌}
use mathlib.Core.List.{List, ◌++◌}
use Prim.Native.Nat.{ℕ, ◌+◌, ◌*◌, ◌≤◌}
use lib.ListN.{take}
use lib.Ieee.{Float, nan}
use Rattle.rows.specs.Region.{part, OnlyOf}
use Rattle.rules.specs.Lists.{below, each}
use Rattle.split_bowtie_vertices.proofs.copies.Given as goal

pub record Inv (ps₀ : List Float) (v from m : ℕ) (ps : List Float) (j : ℕ) : Type 0 where
  pub at_most : j ≤ m
  pub only : OnlyOf nan (3 * from) (3 * j) ps₀ ps
  pub copied : take (3 * (from + j)) ps ≡ take (3 * from) ps₀ ++ each (λ i. part ps₀ (3 * v) 3) (below j)

abbrev pub invariant-loop-j : goal.invariant-loop-j
invariant-loop-j l = Inv l.initial.points l.v l.from l.m l.points l.j
