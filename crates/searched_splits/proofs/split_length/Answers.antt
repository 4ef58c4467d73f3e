-- `searched_splits::split_length` meets its contract: face after face. The measure is the number of faces to come. Assumes nothing.
use mathlib.Core.Path.{sym, ◌∙◌}
use Prim.Native.Nat.{◌<◌}
use lib.ListN.{length}
use native.Mathlib.Omega.{arith}
use Rattle.searched_splits.proofs.Faces.{begin, ask, face_more, face_none, done}
use Rattle.searched_splits.proofs.split_length.Goals as goal
use Rattle.searched_splits.proofs.split_length.Goals.{else-stands, then-stands}

-- src/lib.rt:209:5
pub loop-f-init : goal.loop-f-init
loop-f-init c = begin c.requires.split_asks

-- src/lib.rt:210:12
pub stands-requires : goal.stands-requires
stands-requires c = omega arith

-- src/lib.rt:211:17
pub split_face-told-requires : goal.split_face-told-requires
split_face-told-requires c = record { face_asks = ask c.requires.split_asks c.loop-f.invariant (omega arith) (sym c.stands.ensures ∙ c.if-stands.true); indexed = c.requires.indexed }

-- src/lib.rt:209:5
pub loop-f-preserved : goal.loop-f-preserved
loop-f-preserved c = let p = c.requires.split_asks in
    let h : c.loop-f.f < length c.loop-f.words = omega arith in
    elim c.if-stands.branch [
      | then-stands w ↦ let e = sym c.stands.ensures ∙ w.if-stands.true in
          rw (w.words-is, w.told-is) (face_more p c.loop-f.invariant h e (w.split_face-told.ensures (ask p c.loop-f.invariant h e)))
      | else-stands w ↦ rw (w.words-is, w.told-is) (face_none p c.loop-f.invariant h (sym c.stands.ensures ∙ w.if-stands.false))
    ]

-- src/lib.rt:202:1
pub shape_of-words : goal.shape_of-words
shape_of-words c = c.loop-f.invariant.stage.long

-- src/lib.rt:202:1
pub returns : goal.returns
returns c = done c.requires.split_asks c.loop-f.invariant (omega arith)
