-- `text_in::cut` meets its contract: one cut after the other. Assumes nothing.
use Rattle.text_in.proofs.Cuts.{one, two, three, four, more}
use Rattle.text_in.proofs.cut.Goals as goal

pub returns-then-a-line : goal.returns-then-a-line
returns-then-a-line c = one c.find-a.ensures c.if-a-line.true

pub returns-then-b-line : goal.returns-then-b-line
returns-then-b-line c = two c.find-a.ensures c.if-a-line.false c.find-b.ensures c.if-b-line.true

pub returns-then-c-line : goal.returns-then-c-line
returns-then-c-line c = three c.find-a.ensures c.if-a-line.false c.find-b.ensures c.if-b-line.false c.find-c.ensures c.if-c-line.true

pub returns-then-d-line : goal.returns-then-d-line
returns-then-d-line c = four c.find-a.ensures c.if-a-line.false c.find-b.ensures c.if-b-line.false c.find-c.ensures c.if-c-line.false c.find-d.ensures c.if-d-line.true

pub returns : goal.returns
returns c = more c.find-a.ensures c.if-a-line.false c.find-b.ensures c.if-b-line.false c.find-c.ensures c.if-c-line.false c.find-d.ensures c.if-d-line.false
