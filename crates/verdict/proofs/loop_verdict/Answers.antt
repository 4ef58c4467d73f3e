-- `verdict::loop_verdict` meets its contract. Assumes nothing.
use Rattle.verdict.proofs.Verdicts.{verdict_is}
use Rattle.verdict.proofs.loop_verdict.Goals as goal

pub returns : goal.returns
returns c = verdict_is _ _ c.requires c.decide.result c.decide.ensures
