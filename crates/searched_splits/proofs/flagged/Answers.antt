-- `searched_splits::flagged` meets its contract: the flag is a bit of the word. Assumes nothing.
use mathlib.Core.Path.{ap}
use Prim.Native.Nat.{ℕ, ◌/◌, ◌%◌}
use native.Mathlib.Omega.{arith}
use lib.Dec.{eqb}
use Rattle.searched_splits.specs.Splits.{flagged_in}
use Rattle.searched_splits.proofs.Reading.{bit_some}
use Rattle.searched_splits.proofs.flagged.Goals as goal

pub nonzero_div-result : goal.nonzero_div-result
nonzero_div-result c = omega (arith, c.bit.ensures, bit_some c.args.k)

pub returns : goal.returns
unfolding flagged_in
returns c = ap (λ (n : ℕ). eqb (c.args.word / n % 2) 1) c.bit.ensures
