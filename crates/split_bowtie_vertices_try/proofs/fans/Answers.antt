-- `split_bowtie_vertices_try::fans` runs pass 5 on what it asks for: antt computes it. Assumes nothing.
use mathlib.Core.Path.{refl}
use Rattle.split_bowtie_vertices_try.proofs.Ready.{ready}
use Rattle.split_bowtie_vertices_try.proofs.fans.Goals as goal

pub run-requires : goal.run-requires
run-requires g c = ready _ _ _ _ _ refl
