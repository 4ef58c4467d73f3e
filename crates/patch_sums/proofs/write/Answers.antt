-- `patch_sums::write` meets its contract: seven stores in line. Assumes nothing.
use native.Mathlib.Omega.{arith}
use lib.ListN.{length-set}
use Rattle.patch_sums.proofs.Seven.{stored_only, stored_is}
use Rattle.patch_sums.proofs.write.Goals as goal

pub bounds-numbers-i-2 : goal.bounds-numbers-i-2
bounds-numbers-i-2 c = simp length-set (omega (arith, c.requires))

pub bounds-numbers-i-3 : goal.bounds-numbers-i-3
bounds-numbers-i-3 c = simp length-set (omega (arith, c.requires))

pub bounds-numbers-i-4 : goal.bounds-numbers-i-4
bounds-numbers-i-4 c = simp length-set (omega (arith, c.requires))

pub bounds-numbers-i-5 : goal.bounds-numbers-i-5
bounds-numbers-i-5 c = simp length-set (omega (arith, c.requires))

pub bounds-numbers-i-6 : goal.bounds-numbers-i-6
bounds-numbers-i-6 c = simp length-set (omega (arith, c.requires))

pub bounds-numbers-i-7 : goal.bounds-numbers-i-7
bounds-numbers-i-7 c = simp length-set (omega (arith, c.requires))

pub returns : goal.returns
returns c = record { only_of = stored_only _ _ _; k_after = stored_is c.args.numbers.now c.args.k c.args.r c.requires }
