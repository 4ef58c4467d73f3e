-- `shell::shell_edges` meets its contract: the outcome of the edge call, told in numbers. Assumes nothing.
use native.Mathlib.Omega.{arith}
use Rattle.place_laws.proofs.Outcomes.{edges_place}
use Rattle.shell.proofs.shell_edges.Goals as goal

pub overflow_cast-result : goal.overflow_cast-result
overflow_cast-result c = omega (arith, c.place.ensures, edges_place _ _ _ c.in-Err.ensures)
