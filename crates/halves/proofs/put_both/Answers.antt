-- `halves::put_both` meets its contract. Assumes nothing.
use Rattle.halves.proofs.Gathering.{both_full, second_asks, both_put}
use Rattle.halves.proofs.put_both.Goals as goal

pub returns-then-m-buffer : goal.returns-then-m-buffer
returns-then-m-buffer c = both_full c.requires c.put-g.ensures c.if-m-buffer.true

pub put-requires : goal.put-requires
put-requires c = second_asks c.requires c.put-g.ensures c.if-m-buffer.false

pub returns : goal.returns
returns c = both_put c.requires c.put-g.ensures c.put.ensures
