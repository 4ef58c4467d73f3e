-- `measure::area` meets its contract, by the steps of `proofs/Chains.antt`. Assumes nothing.
use lib.Ieee.{of_bits}
use Rattle.measure.proofs.Chains.{sided}
use Rattle.measure.proofs.area.Goals as goal

pub returns : goal.returns
unfolding of_bits
returns c = let d = c.before.before in
    let p = d.before.before in
    sided _ _ _ _ p.at-p0.ensures p.at-p1.ensures p.at-p2.ensures d.difference.ensures d.difference-2.ensures
    c.cross.ensures c.norm.ensures
