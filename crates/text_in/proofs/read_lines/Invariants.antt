-- `text_in::read_lines` meets its contract: the lines before `at` are taken in. Assumes nothing.
use Prim.Native.Nat.{◌-◌}
use lib.ListN.{length}
use Rattle.text_in.proofs.Lines.{Taken}
use Rattle.text_in.proofs.read_lines.Given as goal

abbrev pub invariant-loop-at : goal.invariant-loop-at
invariant-loop-at l = Taken l.text l.from l.options l.threshold l.initial.points l.initial.faces l.at l.points l.p l.faces l.f

abbrev pub decreases-loop-at : goal.decreases-loop-at
decreases-loop-at l = length l.text - l.at
