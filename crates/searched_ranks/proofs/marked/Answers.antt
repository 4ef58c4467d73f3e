-- `searched_ranks::marked` meets its contract: the mark is a bit of the word. Assumes nothing.
use mathlib.Core.Path.{ap}
use Prim.Native.Nat.{ℕ, ◌*◌, ◌/◌, ◌%◌}
use native.Mathlib.Omega.{arith}
use lib.Dec.{eqb}
use Rattle.searched_splits.proofs.Reading.{bit_some}
use Rattle.searched_splits.proofs.Closing.{bit_most}
use Rattle.searched_ranks.specs.Ranks.{marked_in}
use Rattle.searched_ranks.proofs.marked.Goals as goal

pub overflow_mul-result : goal.overflow_mul-result
overflow_mul-result c = omega (arith, c.bit.ensures, bit_most c.args.k)

pub nonzero_div-result : goal.nonzero_div-result
nonzero_div-result c = omega (arith, c.bit.ensures, bit_some c.args.k)

pub returns : goal.returns
unfolding marked_in
returns c = ap (λ (n : ℕ). eqb (c.args.word / (8 * n) % 2) 1) c.bit.ensures
