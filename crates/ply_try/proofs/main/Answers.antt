-- `ply_try::main` is safe: the files that it lends are fronts of the buffer. Assumes nothing.
use native.Mathlib.Omega.{arith}
use lib.ListN.{length-take}
use Rattle.ply_try.proofs.main.Goals as goal

pub slice_bounds-read-end-2 : goal.slice_bounds-read-end-2
slice_bounds-read-end-2 c = simp length-take (omega arith)

pub slice_bounds-count-end-2 : goal.slice_bounds-count-end-2
slice_bounds-count-end-2 c = simp length-take (omega arith)

pub slice_bounds-read-end-3 : goal.slice_bounds-read-end-3
slice_bounds-read-end-3 c = simp length-take (omega arith)

pub slice_bounds-count-end-3 : goal.slice_bounds-count-end-3
slice_bounds-count-end-3 c = simp length-take (omega arith)

pub slice_bounds-short_rooms-end : goal.slice_bounds-short_rooms-end
slice_bounds-short_rooms-end c = simp length-take (omega arith)

pub slice_bounds-changes-end : goal.slice_bounds-changes-end
slice_bounds-changes-end c = simp length-take (omega arith)

pub changes-requires : goal.changes-requires
changes-requires c = simp length-take (omega arith)
