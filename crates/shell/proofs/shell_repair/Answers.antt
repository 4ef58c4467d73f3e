-- `shell::shell_repair` meets its contract: the outcome of the repair, told in numbers. Assumes nothing.
use native.Mathlib.Omega.{arith}
use Rattle.place_laws.proofs.Outcomes.{repair_place}
use Rattle.shell.proofs.shell_repair.Goals as goal

pub overflow_cast-result : goal.overflow_cast-result
overflow_cast-result c = omega (arith, c.place.ensures, repair_place _ _ _ _ _ c.in-Err.ensures)
