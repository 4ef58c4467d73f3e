-- `searched_walk::meet_times` meets its contract. The invariant: the face was met k times. Assumes nothing.
use Rattle.rules.specs.Steps.{step}
use Rattle.searched_walk.proofs.Meeting.{times_begin, times_ask, times_again, times_done}
use Rattle.searched_walk.proofs.meet_times.Goals as goal

-- src/lib.rt:98:5
pub loop-time-init : goal.loop-time-init
loop-time-init c = times_begin c.requires (step c.args.a c.args.b) c.args.times

-- src/lib.rt:99:9
pub meet-now-requires : goal.meet-now-requires
meet-now-requires c = times_ask c.requires (step c.args.a c.args.b) c.args.times c.loop-time.invariant

-- src/lib.rt:98:5
pub loop-time-preserved : goal.loop-time-preserved
loop-time-preserved c = times_again c.requires (step c.args.a c.args.b) c.args.times c.loop-time.invariant c.loop-time-test.true c.meet-now.ensures

-- src/lib.rt:84:1
pub shape_of-words : goal.shape_of-words
shape_of-words c = c.loop-time.invariant.gives.kept.long

-- src/lib.rt:84:1
pub returns : goal.returns
returns c = times_done c.requires (step c.args.a c.args.b) c.args.times c.loop-time.invariant c.loop-time-test.false
