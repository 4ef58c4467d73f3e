-- `patches::share` meets its contract: no limit, or the fraction of the largest area. Assumes nothing.
use Rattle.std.proofs.Common.{rules}
use Rattle.patches.specs.Answers.{share_of}
use Rattle.patches.proofs.share.Goals as goal

pub returns-in-Absent : goal.returns-in-Absent
unfolding share_of
returns-in-Absent c = search rules

pub returns-in-Limit : goal.returns-in-Limit
unfolding share_of
returns-in-Limit c = search rules
