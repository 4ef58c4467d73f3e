-- `entry_search::entries_of` meets its contract: the steps of a face that stands. Assumes nothing.
use Rattle.rules.specs.Steps.{step}
use Rattle.entry_search.specs.Searching.{along}
use Rattle.entry_search.proofs.Counting.{uses_seen, uses_gone}
use Rattle.entry_search.proofs.entries_of.Goals as goal

-- src/lib.rt:115:9
pub returns-then-stands : goal.returns-then-stands
returns-then-stands c = uses_seen (along c.args.directed (step c.args.a c.args.b)) c.args.faces.now c.args.words.now c.args.f c.stands.ensures c.if-stands.true c.view.ensures c.uses.ensures

-- src/lib.rt:103:1
pub returns : goal.returns
returns c = uses_gone (along c.args.directed (step c.args.a c.args.b)) c.args.faces.now c.args.words.now c.args.f c.stands.ensures c.if-stands.false
