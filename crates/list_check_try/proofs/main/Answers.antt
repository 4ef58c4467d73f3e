-- `list_check_try::main` meets what it calls: the faces are over few points. Assumes nothing.
use native.Mathlib.Omega.{arith}
use Rattle.list_check_try.proofs.Ready.{two_faces}
use Rattle.list_check_try.proofs.main.Goals as goal

pub forms-requires : goal.forms-requires
forms-requires c = two_faces 5 (omega arith) (omega arith)

pub orders-requires : goal.orders-requires
orders-requires c = two_faces 5 (omega arith) (omega arith)

pub splits-requires : goal.splits-requires
splits-requires c = two_faces 5 (omega arith) (omega arith)

pub unused-requires : goal.unused-requires
unused-requires c = two_faces 5 (omega arith) (omega arith)

pub isolated-requires : goal.isolated-requires
isolated-requires c = two_faces 7 (omega arith) (omega arith)
