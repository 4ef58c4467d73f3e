-- `mend_text::mend_text` meets its contract: the job that the text asks for is answered, or 11 is given. Assumes nothing.
use mathlib.Core.Path.{sym}
use lib.Seq.{length-take-le}
use Rattle.mend_text.proofs.Reading.{puts_bad, points_in, faces_in_is, mend_asks, puts_answer}
use Rattle.mend_text.proofs.mend_text.Goals as goal

pub slice_bounds-points-end : goal.slice_bounds-points-end
slice_bounds-points-end c = points_in c.args.text.now c.read.new.points c.read.new.faces c.in-Some.job c.in-Some.ensures.faces_after c.in-Some.ensures.told_within c.read.auto.points

pub slice_bounds-mend-end : goal.slice_bounds-mend-end
slice_bounds-mend-end c = sym (length-take-le _ _ (points_in c.args.text.now c.read.new.points c.read.new.faces c.in-Some.job c.in-Some.ensures.faces_after c.in-Some.ensures.told_within c.read.auto.points))

pub slice_bounds-faces-end : goal.slice_bounds-faces-end
slice_bounds-faces-end c = faces_in_is c.args.text.now c.read.new.points c.read.new.faces c.in-Some.job c.in-Some.ensures.faces_after c.in-Some.ensures.told_within c.read.auto.faces

pub slice_bounds-mend-end-in-Some : goal.slice_bounds-mend-end-in-Some
slice_bounds-mend-end-in-Some c = sym (length-take-le _ _ (faces_in_is c.args.text.now c.read.new.points c.read.new.faces c.in-Some.job c.in-Some.ensures.faces_after c.in-Some.ensures.told_within c.read.auto.faces))

pub mend-requires : goal.mend-requires
mend-requires c = mend_asks c.args.text.now c.read.new.points c.read.new.faces c.in-Some.job c.in-Some.ensures.faces_after c.requires

pub returns-in-None : goal.returns-in-None
returns-in-None c = puts_bad c.args.text.now c.read.new.points c.read.new.faces c.in-None.ensures.faces_after c.put_refusal.ensures

pub returns-in-Some : goal.returns-in-Some
returns-in-Some c = puts_answer c.args.text.now c.read.new.points c.read.new.faces c.in-Some.job c.in-Some.ensures.faces_after c.mend.ensures
