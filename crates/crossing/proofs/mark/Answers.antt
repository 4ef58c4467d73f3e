-- `crossing::mark` meets its contract. Assumes nothing.
use Rattle.crossing.proofs.Noting.{mark_none, mark_self, mark_other}
use Rattle.crossing.proofs.mark.Goals as goal
use Rattle.crossing.proofs.mark.Goals.{else-known-ne0-via-else-known-ne0, else-known-ne0-via-then-known-ne0+else-known-j}

pub returns-then-known-j : goal.returns-then-known-j
returns-then-known-j c = mark_other c.requires c.if-known-ne0.true c.if-known-j.true

pub returns-else-known-ne0 : goal.returns-else-known-ne0
returns-else-known-ne0 c = elim c.else-known-ne0.branch [ else-known-ne0-via-then-known-ne0+else-known-j w ↦ mark_self c.requires w.if-known-ne0.true w.if-known-j.false | else-known-ne0-via-else-known-ne0 w ↦ mark_none c.requires w.if-known-ne0.false ]
