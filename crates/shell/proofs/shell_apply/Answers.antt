-- `shell::shell_apply` meets its contract: the outcome of applying the list, told in numbers. Assumes nothing.
use native.Mathlib.Omega.{arith}
use Rattle.shell.proofs.ApplyPlaces.{apply_place}
use Rattle.shell.proofs.shell_apply.Goals as goal

pub overflow_cast-result : goal.overflow_cast-result
overflow_cast-result c = omega (arith, c.place.ensures, apply_place _ _ _ _ c.in-Err.ensures)
