-- `ply_file::vertices` meets its contract: all vertices before i are without fault. Assumes nothing.
use Rattle.refuse.proofs.Scans.{Clean}
use Rattle.ply_file.proofs.Scanning.{far_at}
use Rattle.ply_file.proofs.vertices.Given as goal

abbrev pub invariant-loop-i : goal.invariant-loop-i
invariant-loop-i l = Clean (far_at l.file l.at) l.p l.i
