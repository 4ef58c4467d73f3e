-- `shell::shell_list_in_parts` meets its contract: the outcome of writing the list, told in numbers. Assumes nothing.
use native.Mathlib.Omega.{arith}
use Rattle.shell.proofs.ListPlaces.{listed_place, told_accepted, told_refused}
use Rattle.shell.proofs.shell_list_in_parts.Goals as goal

pub overflow_cast-result : goal.overflow_cast-result
overflow_cast-result c = omega (arith, c.place.ensures, listed_place c.in-Err.ensures)

pub returns-in-Ok : goal.returns-in-Ok
returns-in-Ok c = told_accepted c.in-Ok.ensures

pub returns-in-Err : goal.returns-in-Err
returns-in-Err c = rw (c.number.ensures, c.place.ensures) (told_refused c.in-Err.ensures)
