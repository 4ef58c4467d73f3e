-- `repair_panel::mend_all` meets its contract: after k meshes each list is what the first k contribute. Assumes nothing.
use Rattle.repair_panel.proofs.Turns.{Mended}
use Rattle.repair_panel.proofs.mend_all.Given as goal

abbrev pub invariant-loop-k : goal.invariant-loop-k
invariant-loop-k l = Mended l.points l.faces l.point_counts l.face_counts l.s l.options l.initial.out_points l.initial.out_faces l.initial.report l.initial.origins l.initial.meshes l.initial.work l.out_points l.out_faces l.report l.origins l.meshes l.work l.at l.k
