-- `measure::at` meets its contract: the coordinates of a point stand at 3i, 3i + 1 and 3i + 2. Assumes nothing.
use lib.Ieee.{nan}
use mathlib.Core.Path.{sym}
use Rattle.rule_laws.proofs.Flat.{point_in}
use Rattle.measure.proofs.at.Goals as goal

pub returns : goal.returns
returns c = sym (point_in c.args.points.now nan c.args.i c.requires)
