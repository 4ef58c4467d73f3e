-- `patches::keep` meets its contract: all are flagged, or the first n. Assumes nothing.
use Rattle.patches.proofs.Flags.{keep_all, keep_first}
use Rattle.patches.proofs.keep.Goals as goal

pub returns-in-Absent : goal.returns-in-Absent
returns-in-Absent c = keep_all c.in-Absent.is c.fill.ensures.only c.fill.ensures.filled

pub returns-in-Limit : goal.returns-in-Limit
returns-in-Limit c = keep_first c.in-Limit.is c.keep_largest.ensures
