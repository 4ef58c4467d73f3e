-- `list_lines::read_face` meets its contract: the first field that is left. Assumes nothing.
use native.Mathlib.Omega.{arith}
use Rattle.list_lines.proofs.Telling.{face_none, face_is}
use Rattle.list_lines.proofs.Fields.{on_fits}
use Rattle.list_lines.proofs.read_face.Goals as goal

pub overflow_add-result : goal.overflow_add-result
overflow_add-result c = omega (arith, on_fits _ _ _ (c.in-Some.ensures) c.requires.faces.begins c.requires.faces.ends)

pub returns-in-None : goal.returns-in-None
returns-in-None c = face_none c.requires _ _ (c.in-None.ensures)

pub returns-in-Some : goal.returns-in-Some
returns-in-Some c = face_is c.requires (c.in-Some.ensures)
