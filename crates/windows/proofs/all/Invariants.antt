-- `windows::all` meets its contract. The invariant: the vertices before v are passed, and the corners of those from v on are counted. Assumes nothing.
use Rattle.std.proofs.Common.{◌-◌}
use Rattle.windows.proofs.Advancing.{Advanced}
use Rattle.windows.proofs.all.Given as goal

abbrev pub invariant-loop-v : goal.invariant-loop-v
invariant-loop-v l = Advanced l.faces l.points l.width l.initial.ends l.initial.buffer l.initial.counts l.initial.entries l.ends l.buffer l.counts l.entries l.t l.v

abbrev pub decreases-loop-v : goal.decreases-loop-v
decreases-loop-v l = l.points - l.v
