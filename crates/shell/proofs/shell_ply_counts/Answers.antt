-- `shell::shell_ply_counts` meets its contract: the outcome of the counts, told in numbers. Assumes nothing.
use native.Mathlib.Omega.{arith}
use Rattle.shell.proofs.PlyPlaces.{ply_counts_place}
use Rattle.shell.proofs.shell_ply_counts.Goals as goal

pub overflow_cast-result : goal.overflow_cast-result
overflow_cast-result c = omega (arith, c.place.ensures, ply_counts_place _ c.in-Err.ensures)
