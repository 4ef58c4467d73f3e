-- `edge_check::repeats` meets its contract: the corners are compared one pair after the other. Assumes nothing.
use Rattle.edge_check.proofs.Corners.{first_two, last_two, outer_two}
use Rattle.edge_check.proofs.repeats.Goals as goal

pub returns-then-a-b : goal.returns-then-a-b
returns-then-a-b c = first_two _ _ c.requires c.if-a-b.true

pub returns-then-b-c : goal.returns-then-b-c
returns-then-b-c c = last_two _ _ c.requires c.if-a-b.false c.if-b-c.true

pub returns : goal.returns
returns c = outer_two _ _ c.requires c.if-a-b.false c.if-b-c.false
