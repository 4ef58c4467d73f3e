-- `searched_lost::lost_length` meets its contract: face after face. The measure is the number of faces to come. Assumes nothing.
use native.Mathlib.Omega.{arith}
use Rattle.searched_lost.proofs.Adding.{face_most, gone_begin, face-ask, gone_more, gone_same, gone_done}
use Rattle.searched_lost.proofs.lost_length.Goals as goal
use Rattle.searched_lost.proofs.lost_length.Goals.{else-stands, then-stands}

pub loop-f-init : goal.loop-f-init
loop-f-init c = λ q. gone_begin q

pub stands-requires : goal.stands-requires
stands-requires c = c.loop-f-test.true

pub lost_face-bytes-requires : goal.lost_face-bytes-requires
lost_face-bytes-requires c = let p = c.requires in face-ask p (c.loop-f.invariant p) c.loop-f-test.true c.stands.ensures c.if-stands.true

pub overflow_add-bytes : goal.overflow_add-bytes
overflow_add-bytes c = let p = c.requires in omega (arith, (c.loop-f.invariant p).few, c.loop-f-test.true, c.lost_face-bytes.ensures (face-ask p (c.loop-f.invariant p) c.loop-f-test.true c.stands.ensures c.if-stands.true), face_most c.args.faces.now p.base c.args.points c.loop-f.f, p.split.worded.few, p.stage.long)

pub loop-f-preserved : goal.loop-f-preserved
loop-f-preserved c = λ q. elim c.if-stands.branch [ then-stands w ↦ rw w.bytes-is (gone_more q (c.loop-f.invariant q) c.loop-f-test.true c.stands.ensures w.if-stands.true (w.lost_face-bytes.ensures (face-ask q (c.loop-f.invariant q) c.loop-f-test.true c.stands.ensures w.if-stands.true))) | else-stands w ↦ rw w.bytes-is (gone_same q (c.loop-f.invariant q) c.loop-f-test.true c.stands.ensures w.if-stands.false) ]

pub returns : goal.returns
returns c = λ q. gone_done q (c.loop-f.invariant q) c.loop-f-test.false
