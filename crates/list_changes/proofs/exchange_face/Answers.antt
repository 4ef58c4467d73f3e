-- `list_changes::exchange_face` meets its contract: two stores. Assumes nothing.
use native.Mathlib.Omega.{arith}
use lib.ListN.{length-set}
use Rattle.list_changes.proofs.Facing.{exchange_stored}
use Rattle.list_changes.proofs.exchange_face.Goals as goal

pub bounds-faces-c-2 : goal.bounds-faces-c-2
bounds-faces-c-2 c = simp length-set (omega arith)

pub returns : goal.returns
returns c = exchange_stored c.args.faces.now c.args.f c.requires
