-- `line::put_line` meets its contract. Assumes nothing.
use Rattle.rules.specs.Line.{bytes}
use Rattle.line.proofs.Whole.{clean_done, parts_done}
use Rattle.line.proofs.put_line.Goals as goal

pub returns-then-end-eq0 : goal.returns-then-end-eq0
unfolding bytes
returns-then-end-eq0 c = clean_done c.requires c.put_parts-end.ensures c.if-end-eq0.true c.put_text.ensures

pub returns : goal.returns
returns c = parts_done c.requires c.put_parts-end.ensures c.if-end-eq0.false
