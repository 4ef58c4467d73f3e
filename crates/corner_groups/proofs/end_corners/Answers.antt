-- `corner_groups::end_corners` meets its contract. Assumes nothing.
use Rattle.corner_groups.proofs.Ends.{lower_same, lower_up, lower_down, higher_same, higher_up, higher_down}
use Rattle.corner_groups.proofs.end_corners.Goals as goal

pub returns-then-x-y : goal.returns-then-x-y
returns-then-x-y c = record { lower = lower_same c.requires c.after-t.ensures c.if-x-y.true; higher = higher_same c.requires c.after-t.ensures c.if-x-y.true }

pub returns-then-x-y-2 : goal.returns-then-x-y-2
returns-then-x-y-2 c = record { lower = lower_up c.requires c.after-t.ensures c.if-x-y-2.true; higher = higher_up c.requires c.after-t.ensures c.if-x-y-2.true }

pub returns-else-x-y-2 : goal.returns-else-x-y-2
returns-else-x-y-2 c = record { lower = lower_down c.requires c.after-t.ensures c.if-x-y.false c.if-x-y-2.false; higher = higher_down c.requires c.after-t.ensures c.if-x-y.false c.if-x-y-2.false }
