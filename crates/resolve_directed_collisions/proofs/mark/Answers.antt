-- `resolve_directed_collisions::mark` meets its contract: the faces at the front are marked. Assumes nothing.
use mathlib.Core.Path.{refl, sym}
use Rattle.marking.proofs.Standing.{front_long, mark_ok, marks_are}
use Rattle.resolve_directed_collisions.proofs.mark.Goals as goal

pub slice_bounds-mark_edges-end : goal.slice_bounds-mark_edges-end
slice_bounds-mark_edges-end c = sym (front_long c.requires)

pub mark_edges-requires : goal.mark_edges-requires
mark_edges-requires c = mark_ok c.requires

pub returns : goal.returns
returns c = record { fact = marks_are c.requires c.mark_edges.ensures; found_value = refl }
