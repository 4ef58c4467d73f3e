-- `searched_walk::meet_face` meets its contract: a face that stands and is another is met as often as it uses the edge. Assumes nothing.
use Rattle.rules.specs.Steps.{step}
use Rattle.searched_walk.proofs.Meeting.{met_self, met_gone, stand_ask, met_times}
use Rattle.searched_walk.proofs.meet_face.Goals as goal

-- src/lib.rt:119:9
pub returns-then-g-j : goal.returns-then-g-j
returns-then-g-j c = met_self c.requires c.args.j (step c.args.a c.args.b) c.if-g-j.true

-- src/lib.rt:121:9
pub stands-requires : goal.stands-requires
stands-requires c = c.requires.here

-- src/lib.rt:122:9
pub returns-then-not-stands : goal.returns-then-not-stands
returns-then-not-stands c = met_gone c.requires c.args.j (step c.args.a c.args.b) c.if-g-j.false c.stands.ensures c.if-not-stands.true

-- src/lib.rt:124:36
pub view-requires : goal.view-requires
view-requires c = record { worded = c.requires.ready.worded; here = c.requires.here }

-- src/lib.rt:125:5
pub meet_times-requires : goal.meet_times-requires
meet_times-requires c = stand_ask c.requires c.args.j (step c.args.a c.args.b) c.if-g-j.false c.stands.ensures c.if-not-stands.false

-- src/lib.rt:106:1
pub returns : goal.returns
returns c = met_times c.requires c.args.j (step c.args.a c.args.b) c.if-g-j.false c.stands.ensures c.if-not-stands.false c.view.ensures c.uses-times.ensures c.meet_times.ensures
