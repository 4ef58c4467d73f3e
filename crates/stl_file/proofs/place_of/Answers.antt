-- `stl_file::place_of` meets its contract: by definition. Assumes nothing.
use Rattle.stl_file.proofs.Scanning.{place_is}
use Rattle.stl_file.proofs.place_of.Goals as goal

pub returns : goal.returns
returns c = place_is _
