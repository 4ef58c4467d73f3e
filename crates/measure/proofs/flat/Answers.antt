-- `measure::flat` meets its contract, by the steps of `proofs/Chains.antt`. Assumes nothing.
use Rattle.measure.proofs.Chains.{not_flat, by_roots}
use Rattle.measure.proofs.flat.Goals as goal

pub returns-then-above : goal.returns-then-above
returns-then-above c = let x = c.before.before in
    let d = x.before.before.before.before in
    not_flat _ _ _ _ d.difference-e1.ensures d.difference-e2.ensures x.cross.ensures
    x.square-a.ensures x.square-b.ensures x.square-c.ensures (c.above.ensures c.if-above.true)

pub returns : goal.returns
returns c = let x = c.before.before.before.before.before in
    let d = x.before.before.before.before in
    by_roots _ _ _ _ d.difference-e1.ensures d.difference-e2.ensures x.cross.ensures
    x.square-a.ensures x.square-b.ensures x.square-c.ensures
    c.root.ensures c.root-3.ensures c.root-2.ensures
