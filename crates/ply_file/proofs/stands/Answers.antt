-- `ply_file::stands` meets its contract: the comparison is the rules'. Assumes nothing.
use mathlib.Core.Path.{◌∙◌}
use Rattle.ply_file.proofs.Standing.{stands_is}
use Rattle.ply_file.proofs.stands.Goals as goal

pub returns : goal.returns
returns c = c.starts_with.ensures.value ∙ stands_is c.args.file.now c.args.at c.args.text.now
