-- `searched_walk::seen` meets its contract: the rule is the test. Assumes nothing.
use mathlib.Core.Path.{refl}
use Rattle.searched_walk.specs.Walking.{seen}
use Rattle.searched_walk.proofs.seen.Goals as goal

-- src/lib.rt:27:1
pub returns : goal.returns
unfolding seen
returns c = refl
