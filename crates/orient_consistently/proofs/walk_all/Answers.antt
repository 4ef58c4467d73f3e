-- `orient_consistently::walk_all` meets its contract: one start a turn. Assumes nothing.
use Rattle.orient_consistently.proofs.Beginning.{all_begin, all_again, all_done}
use Rattle.orient_consistently.proofs.walk_all.Goals as goal

pub loop-i-init : goal.loop-i-init
loop-i-init c = all_begin c.requires

pub loop-i-preserved : goal.loop-i-preserved
loop-i-preserved c = all_again c.requires c.loop-i.invariant c.loop-i-test.true c.begin-marks.ensures

pub returns : goal.returns
returns c = all_done c.requires c.loop-i.invariant c.loop-i-test.false
