-- `searched_isolated::kept_length` meets its contract: face after face. Assumes nothing.
use mathlib.Core.Path.{sym, ◌∙◌, subst}
use native.Mathlib.Omega.{arith}
use lib.Dec.{T}
use Rattle.searched_isolated.proofs.Lines.{kept_begin, kept_more, kept_same, kept_done, face_most}
use Rattle.searched_isolated.proofs.kept_length.Goals as goal
use Rattle.searched_isolated.proofs.kept_length.Goals.{else-stands, then-stands}

-- src/lib.rt:63:5
pub loop-f-init : goal.loop-f-init
loop-f-init c = kept_begin _ _

-- src/lib.rt:64:12
pub stands-requires : goal.stands-requires
stands-requires c = c.loop-f-test.true

-- src/lib.rt:65:29
pub kept_face-bytes-requires : goal.kept_face-bytes-requires
kept_face-bytes-requires c = record { face_asks = record { worded = c.requires.kept_asks.worded; here = c.loop-f-test.true; standing = subst T (sym (sym c.stands.ensures ∙ c.if-stands.true)) tt }; indexed = c.requires.indexed }

-- src/lib.rt:65:21
pub overflow_add-bytes : goal.overflow_add-bytes
overflow_add-bytes c = omega (arith, c.requires.kept_asks.worded.few, c.loop-f.invariant.few, c.loop-f-test.true, c.kept_face-bytes.ensures, face_most c.args.faces.now c.args.words.now c.loop-f.f)

-- src/lib.rt:63:5
pub loop-f-preserved : goal.loop-f-preserved
loop-f-preserved c = let i = c.loop-f.invariant in
    elim c.if-stands.branch [ then-stands w ↦ rw w.bytes-is (kept_more i c.loop-f-test.true (sym c.stands.ensures ∙ w.if-stands.true) w.kept_face-bytes.ensures) | else-stands w ↦ rw w.bytes-is (kept_same i c.loop-f-test.true (sym c.stands.ensures ∙ w.if-stands.false)) ]

-- src/lib.rt:57:1
pub returns : goal.returns
returns c = kept_done c.loop-f.invariant c.loop-f-test.false
