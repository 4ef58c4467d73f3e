-- `patches::under` meets its contract: the limit is taken apart, and compared. Assumes nothing.
use Rattle.std.proofs.Common.{rules}
use Rattle.rules.specs.Patches as rule
use Rattle.patches.proofs.under.Goals as goal

pub returns-in-Absent : goal.returns-in-Absent
unfolding rule.under
returns-in-Absent c = search rules

pub returns-in-Limit : goal.returns-in-Limit
unfolding rule.under
returns-in-Limit c = search rules
