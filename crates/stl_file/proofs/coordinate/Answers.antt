-- `stl_file::coordinate` meets its contract: the bits of the f32 are read and widened. Assumes nothing.
use mathlib.Core.Path.{ap, ◌∙◌}
use lib.Ieee.{of_bits, binary32}
use Rattle.rules.specs.Stl.{coordinate}
use Rattle.stl_file.proofs.coordinate.Goals as goal

pub returns : goal.returns
unfolding coordinate
returns c = c.widened.ensures ∙ ap (of_bits binary32) c.u32_at.ensures
