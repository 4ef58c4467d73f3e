-- `split_bowtie_vertices::rename` meets its contract. The invariant: the corners passed have their numbers. Assumes nothing.
use mathlib.Core.Path.{◌≡◌}
use mathlib.Core.List.{List}
use Prim.Native.Nat.{ℕ, ◌≤◌, ◌<◌}
use lib.ListN.{length, get_or}
use Rattle.rows.specs.Region.{Only}
use Rattle.corner_numbers.specs.Numbers.{new_by}
use Rattle.split_bowtie_vertices.proofs.rename.Given as goal

pub record Inv (xs₀ w : List ℕ) (leads numbers n : ℕ) (xs : List ℕ) (id : ℕ) : Type 0 where
  pub at_most : id ≤ n
  pub only : Only 0 n xs₀ xs
  pub renamed : (i : ℕ) → i < id → get_or xs i 0 ≡ new_by w leads numbers i

pub record Turn (xs : List ℕ) (n id : ℕ) : Type 0 where
  pub here : id < n
  pub fit : n ≤ length xs

abbrev pub invariant-loop-id : goal.invariant-loop-id
invariant-loop-id l = Inv l.initial.faces l.work l.leads l.numbers l.n l.faces l.id
