-- `measure::quality` meets its contract, by the steps of `proofs/Chains.antt`. Assumes nothing.
use lib.Ieee.{of_bits}
use Rattle.measure.proofs.Chains.{no_size, sized}
use Rattle.measure.proofs.quality.Goals as goal

pub returns-then-sum : goal.returns-then-sum
unfolding of_bits
returns-then-sum c = let s = c.before in
    let d = s.before.before.before in
    let p = d.before.before.before in
    no_size _ _ _ _ p.at-p0.ensures p.at-p1.ensures p.at-p2.ensures
    d.difference-e0.ensures d.difference-e1.ensures d.difference-e2.ensures
    s.square.ensures s.square-2.ensures s.square-3.ensures c.if-sum.true

pub returns : goal.returns
unfolding of_bits
returns c = let i = c.before.before in
    let s = i.before in
    let d = s.before.before.before in
    let p = d.before.before.before in
    sized _ _ _ _ p.at-p0.ensures p.at-p1.ensures p.at-p2.ensures
    d.difference-e0.ensures d.difference-e1.ensures d.difference-e2.ensures
    s.square.ensures s.square-2.ensures s.square-3.ensures
    c.cross.ensures c.norm.ensures i.if-sum.false
