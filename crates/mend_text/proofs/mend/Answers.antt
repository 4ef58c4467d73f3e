-- `mend_text::mend` meets its contract: what the repair gives back is what is put. Assumes nothing.
use mathlib.Core.Path.{refl, sym}
use lib.Seq.{length-take-le}
use Rattle.mend_text.proofs.Ending.{puts_refusal, points_in, faces_in_is, writes, puts_mesh}
use Rattle.mend_text.proofs.mend.Goals as goal

pub slice_bounds-mended-end : goal.slice_bounds-mended-end
slice_bounds-mended-end c = points_in c.args.threshold c.args.options c.requires (record { points = refl; faces = refl; report = refl; origins = refl; work = refl }) c.in-Ok.ensures c.repair.auto.out_points

pub slice_bounds-put_mesh-end : goal.slice_bounds-put_mesh-end
slice_bounds-put_mesh-end c = sym (length-take-le _ _ (points_in c.args.threshold c.args.options c.requires (record { points = refl; faces = refl; report = refl; origins = refl; work = refl }) c.in-Ok.ensures c.repair.auto.out_points))

pub slice_bounds-triples-end : goal.slice_bounds-triples-end
slice_bounds-triples-end c = faces_in_is c.args.threshold c.args.options c.requires (record { points = refl; faces = refl; report = refl; origins = refl; work = refl }) c.in-Ok.ensures c.repair.auto.out_faces

pub slice_bounds-put_mesh-end-in-Ok : goal.slice_bounds-put_mesh-end-in-Ok
slice_bounds-put_mesh-end-in-Ok c = sym (length-take-le _ _ (faces_in_is c.args.threshold c.args.options c.requires (record { points = refl; faces = refl; report = refl; origins = refl; work = refl }) c.in-Ok.ensures c.repair.auto.out_faces))

pub put_mesh-requires : goal.put_mesh-requires
put_mesh-requires c = writes c.args.threshold c.args.options c.requires (record { points = refl; faces = refl; report = refl; origins = refl; work = refl }) c.in-Ok.ensures c.repair.auto.report

pub returns-in-Err : goal.returns-in-Err
returns-in-Err c = puts_refusal c.args.threshold c.args.options c.requires (record { points = refl; faces = refl; report = refl; origins = refl; work = refl }) c.in-Err.refusal c.in-Err.ensures (rw c.number.ensures at c.put_refusal.ensures)

pub returns-in-Ok : goal.returns-in-Ok
returns-in-Ok c = puts_mesh c.args.threshold c.args.options c.requires (record { points = refl; faces = refl; report = refl; origins = refl; work = refl }) c.in-Ok.ensures c.repair.auto.report c.put_mesh.ensures
