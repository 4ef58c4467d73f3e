-- `verdict_try::fan` is safe and ends. The invariant: the list keeps its length. Assumes nothing.
use native.Mathlib.Omega.{arith}
use lib.ListN.{length-set}
use Rattle.verdict_try.proofs.fan.Goals as goal

pub bounds-faces-i-in-loop-i : goal.bounds-faces-i-in-loop-i
bounds-faces-i-in-loop-i c = simp length-set (omega arith)

pub bounds-faces-i-in-loop-i-2-2 : goal.bounds-faces-i-in-loop-i-2-2
bounds-faces-i-in-loop-i-2-2 c = simp length-set (omega arith)

pub bounds-faces-i-in-loop-i-2-3 : goal.bounds-faces-i-in-loop-i-2-3
bounds-faces-i-in-loop-i-2-3 c = simp length-set (omega arith)
