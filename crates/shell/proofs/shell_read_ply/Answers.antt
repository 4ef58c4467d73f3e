-- `shell::shell_read_ply` meets its contract: the outcome of reading, told in numbers. Assumes nothing.
use native.Mathlib.Omega.{arith}
use Rattle.shell.proofs.PlyPlaces.{read_ply_place}
use Rattle.shell.proofs.shell_read_ply.Goals as goal

pub overflow_cast-result : goal.overflow_cast-result
overflow_cast-result c = omega (arith, c.place.ensures, read_ply_place _ _ c.in-Err.ensures)
