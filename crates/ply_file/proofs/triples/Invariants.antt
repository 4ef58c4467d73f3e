-- `ply_file::triples` meets its contract: all faces before i have the count 3. Assumes nothing.
use Rattle.refuse.proofs.Scans.{Clean}
use Rattle.ply_file.proofs.Scanning.{other_at}
use Rattle.ply_file.proofs.triples.Given as goal

abbrev pub invariant-loop-i : goal.invariant-loop-i
invariant-loop-i l = Clean (other_at l.file l.at) l.f l.i
