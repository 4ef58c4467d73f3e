-- `ply_file::corners` meets its contract: all faces before i are without fault. Assumes nothing.
use Rattle.refuse.proofs.Scans.{Clean}
use Rattle.ply_file.proofs.Scanning.{astray_at}
use Rattle.ply_file.proofs.corners.Given as goal

abbrev pub invariant-loop-i : goal.invariant-loop-i
invariant-loop-i l = Clean (astray_at l.p l.file l.at) l.f l.i
