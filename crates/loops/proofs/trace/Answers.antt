-- `loops::trace` meets its contract: the loops that vertices below v start are listed. Assumes nothing.
use Rattle.loops.proofs.Tracing.{begin, turn, again, done}
use Rattle.loops.proofs.trace.Goals as goal

pub loop-v-init : goal.loop-v-init
loop-v-init c = λ q. begin q

pub add_loop-found-requires : goal.add_loop-found-requires
add_loop-found-requires c = turn c.requires c.loop-v.invariant c.loop-v-test.true

pub loop-v-preserved : goal.loop-v-preserved
loop-v-preserved c = λ q. again q c.loop-v.invariant c.loop-v-test.true c.add_loop-found.ensures

pub shape_of-work : goal.shape_of-work
shape_of-work c = (c.loop-v.invariant c.requires).only_work.long

pub shape_of-loop_vertices : goal.shape_of-loop_vertices
shape_of-loop_vertices c = (c.loop-v.invariant c.requires).only_vertices.long

pub shape_of-loop_ends : goal.shape_of-loop_ends
shape_of-loop_ends c = (c.loop-v.invariant c.requires).only_ends.long

pub returns : goal.returns
returns c = λ q. done q c.loop-v.invariant c.loop-v-test.false
