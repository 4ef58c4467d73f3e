-- `list_changes::rename_face` meets its contract: three stores. Assumes nothing.
use native.Mathlib.Omega.{arith}
use lib.ListN.{length-set}
use Rattle.list_changes.proofs.Facing.{rename_stored}
use Rattle.list_changes.proofs.rename_face.Goals as goal

pub bounds-faces-at-5 : goal.bounds-faces-at-5
bounds-faces-at-5 c = simp length-set (omega arith)

pub bounds-faces-at-6 : goal.bounds-faces-at-6
bounds-faces-at-6 c = simp length-set (omega arith)

pub returns : goal.returns
returns c = rw (c.corner_instead-c.ensures, c.corner_instead-b.ensures, c.corner_instead-a.ensures) (rename_stored c.args.faces.now c.args.f c.args.old c.args.new c.requires)
