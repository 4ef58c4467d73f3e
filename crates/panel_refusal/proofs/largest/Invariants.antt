-- `panel_refusal::largest` meets its contract: after k meshes the largest of them, and of the others, is that of all. Assumes nothing.
use Rattle.panel_refusal.proofs.Widest.{Widest}
use Rattle.panel_refusal.proofs.largest.Given as goal

abbrev pub invariant-loop-k : goal.invariant-loop-k
invariant-loop-k l = Widest l.point_counts l.face_counts l.most l.k
