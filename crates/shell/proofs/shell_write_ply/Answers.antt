-- `shell::shell_write_ply` meets its contract: the outcome of writing, told in numbers. Assumes nothing.
use native.Mathlib.Omega.{arith}
use Rattle.shell.proofs.PlyPlaces.{write_ply_place}
use Rattle.shell.proofs.shell_write_ply.Goals as goal

pub overflow_cast-result : goal.overflow_cast-result
overflow_cast-result c = omega (arith, c.place.ensures, write_ply_place _ _ _ c.in-Err.ensures)
