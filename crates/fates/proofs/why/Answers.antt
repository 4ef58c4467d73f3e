-- `fates::why` meets its contract: by the three tests. Assumes nothing.
use Rattle.fates.proofs.Sums.{why_ab, why_bc, why_ca, why_none}
use Rattle.fates.proofs.why.Goals as goal

pub returns-then-a-b : goal.returns-then-a-b
returns-then-a-b c = why_ab c.args.a c.args.b c.args.c c.if-a-b.true

pub returns-then-b-c : goal.returns-then-b-c
returns-then-b-c c = why_bc c.args.a c.args.b c.args.c c.if-a-b.false c.if-b-c.true

pub returns-then-c-a : goal.returns-then-c-a
returns-then-c-a c = why_ca c.args.a c.args.b c.args.c c.if-a-b.false c.if-b-c.false c.if-c-a.true

pub returns : goal.returns
returns c = why_none c.args.a c.args.b c.args.c c.if-a-b.false c.if-b-c.false c.if-c-a.false
