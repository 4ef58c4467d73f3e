-- `rank::place` meets its contract: where none is found the first is behind all. Assumes nothing.
use mathlib.Core.Path.{◌∙◌}
use Rattle.rank.proofs.RankLaws.{found_or}
use Rattle.rank.proofs.place.Goals as goal

pub returns : goal.returns
returns c = c.unwrap_or.ensures ∙ found_or c.args.one c.args.run.now c.found.result c.found.ensures
