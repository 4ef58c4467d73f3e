-- `searched_lines::degenerate_length` meets its contract. The invariant: the lines of the faces that were passed are added up. Assumes nothing.
use lib.ListN.{length}
use Rattle.searched_lines.specs.Lines.{degenerate_line}
use Rattle.searched_lines.proofs.Summing.{Summed}
use Rattle.searched_lines.proofs.degenerate_length.Given as goal

abbrev pub invariant-loop-f : goal.invariant-loop-f
invariant-loop-f l = Summed (degenerate_line l.s l.points l.faces l.words) (length l.words) l.bytes l.f
