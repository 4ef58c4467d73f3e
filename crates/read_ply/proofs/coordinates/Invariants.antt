-- `read_ply::coordinates` meets its contract: those before i are stored. Assumes nothing.
use Rattle.read_ply.proofs.Pointing.{Pointing}
use Rattle.read_ply.proofs.coordinates.Given as goal

abbrev pub invariant-loop-i : goal.invariant-loop-i
invariant-loop-i l = Pointing l.file l.at l.n l.initial.points l.points l.i
