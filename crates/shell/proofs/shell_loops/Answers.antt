-- `shell::shell_loops` meets its contract: the outcome of the loop call, told in numbers. Assumes nothing.
use native.Mathlib.Omega.{arith}
use Rattle.place_laws.proofs.Outcomes.{loops_place}
use Rattle.shell.proofs.shell_loops.Goals as goal

pub overflow_cast-result : goal.overflow_cast-result
overflow_cast-result c = omega (arith, c.place.ensures, loops_place _ _ _ c.in-Err.ensures)
