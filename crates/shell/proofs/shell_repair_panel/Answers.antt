-- `shell::shell_repair_panel` meets its contract: the outcome of the call, told in numbers. Assumes nothing.
use native.Mathlib.Omega.{arith}
use Rattle.shell.proofs.PanelPlaces.{panel_place}
use Rattle.shell.proofs.shell_repair_panel.Goals as goal

pub overflow_cast-result : goal.overflow_cast-result
overflow_cast-result c = omega (arith, c.place.ensures, panel_place _ _ _ _ _ _ _ c.in-Err.ensures)
