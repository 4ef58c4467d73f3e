-- `searched_fans::cross` meets its contract: face after face. The measure is the number of faces to come. Assumes nothing.
use mathlib.Core.Path.{sym, ◌∙◌}
use native.Mathlib.Omega.{arith}
use Rattle.searched_fans.proofs.Crossing.{begin, first_asks, next_asks, ask, turn, hit, miss, done, nothing}
use Rattle.searched_fans.proofs.cross.Goals as goal
use Rattle.searched_fans.proofs.cross.Goals.{else-meets, then-meets}

-- src/lib.rt:72:9
pub returns-then-x-v : goal.returns-then-x-v
returns-then-x-v c = nothing _ _ _ _ c.if-x-v.true

-- src/lib.rt:74:9
pub next_face-g-requires : goal.next_face-g-requires
next_face-g-requires c = record { next_asks = first_asks c.requires.cross_asks; indexed = c.requires.indexed }

-- src/lib.rt:75:5
pub loop-g-init : goal.loop-g-init
loop-g-init c = begin c.requires.cross_asks c.next_face-g.ensures

-- src/lib.rt:76:12
pub meets-requires : goal.meets-requires
meets-requires c = ask c.requires.cross_asks c.loop-g.invariant c.loop-g-test.true

-- src/lib.rt:77:24
pub offset_bounds-words-g : goal.offset_bounds-words-g
offset_bounds-words-g c = omega (arith, turn c.requires.cross_asks c.loop-g.invariant c.loop-g-test.true)

-- src/lib.rt:77:24
pub bounds-words-g : goal.bounds-words-g
bounds-words-g c = omega (arith, turn c.requires.cross_asks c.loop-g.invariant c.loop-g-test.true)

-- src/lib.rt:77:24
pub overflow_add-words : goal.overflow_add-words
overflow_add-words c = omega (arith, turn c.requires.cross_asks c.loop-g.invariant c.loop-g-test.true)

-- src/lib.rt:77:13
pub offset_bounds-words-g-then-meets : goal.offset_bounds-words-g-then-meets
offset_bounds-words-g-then-meets c = omega (arith, turn c.requires.cross_asks c.loop-g.invariant c.loop-g-test.true)

-- src/lib.rt:77:13
pub bounds-words-g-then-meets : goal.bounds-words-g-then-meets
bounds-words-g-then-meets c = omega (arith, turn c.requires.cross_asks c.loop-g.invariant c.loop-g-test.true)

-- src/lib.rt:79:36
pub overflow_add-g : goal.overflow_add-g
overflow_add-g c = omega (arith, turn c.requires.cross_asks c.loop-g.invariant c.loop-g-test.true)

-- src/lib.rt:79:9
pub next_face-g-requires-in-loop-g : goal.next_face-g-requires-in-loop-g
next_face-g-requires-in-loop-g c = record { next_asks = next_asks c.requires.cross_asks c.loop-g.invariant c.loop-g-test.true; indexed = c.requires.indexed }

-- src/lib.rt:75:5
pub loop-g-smaller : goal.loop-g-smaller
loop-g-smaller c = omega (arith, c.next_face-g-in-loop-g.ensures.least, c.loop-g.invariant.long, c.loop-g-test.true)

-- src/lib.rt:75:5
pub loop-g-preserved : goal.loop-g-preserved
loop-g-preserved c = let p = c.requires.cross_asks in
    let q = c.next_face-g-in-loop-g.ensures in
    elim c.if-meets.branch [ then-meets w ↦ rw w.words-is (hit p c.loop-g.invariant c.loop-g-test.true q (sym c.meets.ensures ∙ w.if-meets.true)) | else-meets w ↦ rw w.words-is (miss p c.loop-g.invariant c.loop-g-test.true q (sym c.meets.ensures ∙ w.if-meets.false)) ]

-- src/lib.rt:67:1
pub shape_of-words : goal.shape_of-words
shape_of-words c = c.loop-g.invariant.long

-- src/lib.rt:67:1
pub returns : goal.returns
returns c = done c.requires.cross_asks c.loop-g.invariant c.if-x-v.false c.loop-g-test.false
