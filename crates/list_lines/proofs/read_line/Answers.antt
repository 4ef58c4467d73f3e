-- `list_lines::read_line` meets its contract: up to the next newline. Assumes nothing.
use Rattle.list_lines.proofs.Letters.{unended, line_read}
use Rattle.list_lines.proofs.read_line.Goals as goal

pub returns-then-end-text : goal.returns-then-end-text
returns-then-end-text c = unended c.requires c.find-end.ensures c.if-end-text.true

pub returns : goal.returns
returns c = line_read c.requires c.find-end.ensures c.if-end-text.false c.read_letter.result c.read_letter.ensures
