-- `split_bowtie_vertices::split_bowtie_vertices` meets its contract. Assumes nothing.
use Rattle.split_bowtie_vertices.proofs.Ending.{all-ok, rename_ok, done}
use Rattle.split_bowtie_vertices.proofs.split_bowtie_vertices.Goals as goal

pub rename-requires : goal.rename-requires
rename-requires c = rename_ok c.requires c.sort_corners.ensures (c.split_all-s.ensures (all-ok c.requires c.sort_corners.ensures))

pub returns : goal.returns
returns c = done c.requires c.sort_corners.ensures (c.split_all-s.ensures (all-ok c.requires c.sort_corners.ensures)) c.rename.ensures
