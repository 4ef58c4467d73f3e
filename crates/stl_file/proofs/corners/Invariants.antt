-- `stl_file::corners` meets its contract: all corners before c are without fault. Assumes nothing.
use Prim.Native.Nat.{◌*◌}
use Rattle.refuse.proofs.Scans.{Clean}
use Rattle.stl_file.proofs.Scanning.{far_at}
use Rattle.stl_file.proofs.corners.Given as goal

abbrev pub invariant-loop-c : goal.invariant-loop-c
invariant-loop-c l = Clean (far_at l.file) (3 * l.count) l.c
