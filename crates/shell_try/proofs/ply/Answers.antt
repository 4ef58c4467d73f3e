-- `shell_try::ply` is safe and ends: the file that it reads again is a front of the room. Assumes nothing.
use native.Mathlib.Omega.{arith}
use lib.ListN.{length-take}
use Rattle.shell_try.proofs.ply.Goals as goal

pub slice_bounds-read_ply-end : goal.slice_bounds-read_ply-end
slice_bounds-read_ply-end g c = simp length-take (omega arith)

pub slice_bounds-count_ply-end : goal.slice_bounds-count_ply-end
slice_bounds-count_ply-end g c = simp length-take (omega arith)
