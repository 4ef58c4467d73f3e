-- `shell::shell_read_stl` meets its contract: the outcome of reading, told in numbers. Assumes nothing.
use native.Mathlib.Omega.{arith}
use Rattle.shell.proofs.StlPlaces.{stl_place}
use Rattle.shell.proofs.shell_read_stl.Goals as goal

pub overflow_cast-result : goal.overflow_cast-result
overflow_cast-result c = omega (arith, c.place.ensures, stl_place _ _ c.in-Err.ensures)
