-- `measure::distance` meets its contract, by the steps of `proofs/Chains.antt`. Assumes nothing.
use Rattle.measure.proofs.Chains.{spanned}
use Rattle.measure.proofs.distance.Goals as goal

pub returns : goal.returns
returns c = spanned c.at-p.ensures c.at-q.ensures c.difference.ensures c.norm.ensures
