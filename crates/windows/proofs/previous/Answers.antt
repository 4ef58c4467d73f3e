-- `windows::previous` meets its contract. Assumes nothing.
use Rattle.std.proofs.Common.{sym}
use Rattle.windows.proofs.Arounds.{previous_first, previous_more}
use Rattle.windows.proofs.previous.Goals as goal

pub returns-then-i-eq0 : goal.returns-then-i-eq0
returns-then-i-eq0 c = sym (previous_first _ c.if-i-eq0.true)

pub returns : goal.returns
returns c = sym (previous_more _ c.if-i-eq0.false)
