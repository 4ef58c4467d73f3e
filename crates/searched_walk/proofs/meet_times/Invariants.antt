-- `searched_walk::meet_times` meets its contract. The invariant: the face was met k times. Assumes nothing.
use Rattle.rules.specs.Steps.{step}
use Rattle.searched_walk.proofs.Meeting.{Times}
use Rattle.searched_walk.proofs.meet_times.Given as goal

abbrev pub invariant-loop-time : goal.invariant-loop-time
invariant-loop-time l = Times l.faces l.initial.words l.initial.now l.g (step l.a l.b) l.times l.words l.now l._time
