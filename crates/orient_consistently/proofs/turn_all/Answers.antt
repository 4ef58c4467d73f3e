-- `orient_consistently::turn_all` meets its contract: one face a turn. Assumes nothing.
use Rattle.orient_consistently.proofs.Turning.{turn_begin, turn_pair, turn_straight, turn_done}
use Rattle.orient_consistently.proofs.turn_all.Goals as goal
use Rattle.orient_consistently.proofs.turn_all.Goals.{else-work-i-eq2, then-work-i-eq2}

pub loop-i-init : goal.loop-i-init
loop-i-init c = turn_begin c.requires

pub loop-i-preserved : goal.loop-i-preserved
loop-i-preserved c = let p = c.requires in
    let u = c.loop-i.invariant in
    let h = c.loop-i-test.true in
    elim c.if-work-i-eq2.branch [ then-work-i-eq2 w ↦ rw (w.faces-is, w.swap.ensures.after) (turn_pair p u h w.if-work-i-eq2.true) | else-work-i-eq2 w ↦ rw w.faces-is (turn_straight p u h w.if-work-i-eq2.false) ]

pub returns : goal.returns
returns c = turn_done c.requires c.loop-i.invariant c.loop-i-test.false
