-- `patch_sums::begin` meets its contract: the records before k are empty. Assumes nothing.
use mathlib.Core.Path.{refl}
use lib.Ieee.{of_bits}
use Rattle.rules.specs.Patches as rule
use Rattle.patch_sums.proofs.Empties.{begin, turn, again, done}
use Rattle.patch_sums.proofs.begin.Goals as goal

pub loop-k-init : goal.loop-k-init
loop-k-init c = begin c.requires

pub write-requires : goal.write-requires
write-requires c = turn c.requires c.loop-k.invariant c.loop-k-test.true

pub loop-k-preserved : goal.loop-k-preserved
loop-k-preserved c = again c.requires c.loop-k.invariant c.loop-k-test.true c.write.ensures.only_of c.write.ensures.k_after

pub shape_of-numbers : goal.shape_of-numbers
shape_of-numbers c = c.loop-k.invariant.only.long

pub returns : goal.returns
unfolding rule.empty of_bits
returns c = done c.requires c.loop-k.invariant c.loop-k-test.false refl
