-- `searched_walk::component` meets its contract: the face is visited and alone on the stack. Assumes nothing.
use native.Mathlib.Omega.{arith}
use Rattle.searched_walk.proofs.Beginning.{start_low, start_ready, component_gives}
use Rattle.searched_walk.proofs.component.Goals as goal

-- src/lib.rt:191:16
pub overflow_add-words : goal.overflow_add-words
overflow_add-words c = omega (arith, start_low c.requires.start_asks)

-- src/lib.rt:199:5
pub empty_stack-requires : goal.empty_stack-requires
empty_stack-requires c = record { ready = start_ready c.requires.start_asks; indexed = c.requires.indexed }

-- src/lib.rt:187:1
pub returns : goal.returns
returns c = component_gives c.requires.start_asks c.empty_stack.ensures
