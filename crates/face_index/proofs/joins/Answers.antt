-- `face_index::joins` meets its contract: both are among the corners that are read. Assumes nothing.
use mathlib.Core.Path.{◌∙◌}
use Rattle.face_index.proofs.Testing.{joins_both, joins_none}
use Rattle.face_index.proofs.joins.Goals as goal

pub returns-then-among : goal.returns-then-among
returns-then-among c = joins_both c.requires c.args.a c.args.b c.among.ensures c.if-among.true c.among-then-among.ensures

pub returns-else-among : goal.returns-else-among
returns-else-among c = c.if-among.false ∙ joins_none c.requires c.args.a c.args.b c.among.ensures c.if-among.false
