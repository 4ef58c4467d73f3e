-- `measure::shape` meets its contract, by the steps of `proofs/Chains.antt`. Assumes nothing.
use Rattle.measure.proofs.Chains.{twice, is_thin, is_good}
use Rattle.measure.proofs.shape.Goals as goal

pub returns-then-a-b : goal.returns-then-a-b
returns-then-a-b c = twice _ _ _ _ _ c.then-a-b.either

pub returns-then-flat : goal.returns-then-flat
returns-then-flat c =
    is_thin _ _ _ _ _ c.if-a-b.false c.if-b-c.false c.if-c-a.false
    c.at-p0.ensures c.at-p1.ensures c.at-p2.ensures c.flat.ensures c.if-flat.true

pub returns : goal.returns
returns c =
    is_good _ _ _ _ _ c.if-a-b.false c.if-b-c.false c.if-c-a.false
    c.at-p0.ensures c.at-p1.ensures c.at-p2.ensures c.flat.ensures c.if-flat.false
