-- `text_fields::find` meets its contract: the piece ends at the first separator. Assumes nothing.
use mathlib.Core.Path.{sym}
use Rattle.text_fields.proofs.Pieces.{piece_some, piece_none}
use Rattle.text_fields.proofs.find.Goals as goal

pub returns-in-Some : goal.returns-in-Some
returns-in-Some c = piece_some c.args.text.now c.args.from c.args.byte c.in-Some.i c.requires (sym c.in-Some.ensures)

pub returns-in-None : goal.returns-in-None
returns-in-None c = piece_none c.args.text.now c.args.from c.args.byte c.requires (sym c.in-None.ensures)
