-- `searched_fans::settle` meets its contract: face after face. Assumes nothing.
use Prim.Native.Nat.{◌<◌}
use lib.ListN.{length}
use native.Mathlib.Omega.{arith}
use Rattle.rule_laws.proofs.Digits.{decimal_short}
use Rattle.searched_fans.proofs.Settling.{begin, turn, ask, flagged, passed, done, flags_most}
use Rattle.searched_fans.proofs.settle.Goals as goal
use Rattle.searched_fans.proofs.settle.Goals.{else-words-g-eq2, then-words-g-eq2}

-- src/lib.rt:133:5
pub loop-g-init : goal.loop-g-init
loop-g-init c = begin c.requires

-- src/lib.rt:134:12
pub offset_bounds-words-g : goal.offset_bounds-words-g
offset_bounds-words-g c = omega (arith, turn c.requires c.loop-g.invariant (omega (arith, c.loop-g.invariant.long)))

-- src/lib.rt:134:12
pub bounds-words-g : goal.bounds-words-g
bounds-words-g c = omega (arith, turn c.requires c.loop-g.invariant (omega (arith, c.loop-g.invariant.long)))

-- src/lib.rt:135:17
pub view-c-requires : goal.view-c-requires
view-c-requires c = ask c.requires c.loop-g.invariant (omega (arith, c.loop-g.invariant.long))

-- src/lib.rt:136:24
pub offset_bounds-words-g-then-words-g-eq2 : goal.offset_bounds-words-g-then-words-g-eq2
offset_bounds-words-g-then-words-g-eq2 c = omega (arith, turn c.requires c.loop-g.invariant (omega (arith, c.loop-g.invariant.long)))

-- src/lib.rt:136:24
pub bounds-words-g-then-words-g-eq2 : goal.bounds-words-g-then-words-g-eq2
bounds-words-g-then-words-g-eq2 c = omega (arith, turn c.requires c.loop-g.invariant (omega (arith, c.loop-g.invariant.long)))

-- src/lib.rt:136:24
pub overflow_sub-words : goal.overflow_sub-words
overflow_sub-words c = omega (arith, c.if-words-g-eq2.true)

-- src/lib.rt:136:39
pub flags-requires : goal.flags-requires
flags-requires c = tt

-- src/lib.rt:136:24
pub overflow_add-words : goal.overflow_add-words
overflow_add-words c = let v = c.view-c.result in
    omega (arith, turn c.requires c.loop-g.invariant (omega (arith, c.loop-g.invariant.long)), c.flags.ensures, flags_most v.a v.b v.c c.args.v)

-- src/lib.rt:136:13
pub offset_bounds-words-g-then-words-g-eq2-2 : goal.offset_bounds-words-g-then-words-g-eq2-2
offset_bounds-words-g-then-words-g-eq2-2 c = omega (arith, turn c.requires c.loop-g.invariant (omega (arith, c.loop-g.invariant.long)))

-- src/lib.rt:136:13
pub bounds-words-g-then-words-g-eq2-2 : goal.bounds-words-g-then-words-g-eq2-2
bounds-words-g-then-words-g-eq2-2 c = omega (arith, turn c.requires c.loop-g.invariant (omega (arith, c.loop-g.invariant.long)))

-- src/lib.rt:137:21
pub overflow_add-bytes : goal.overflow_add-bytes
overflow_add-bytes c = omega (arith, turn c.requires c.loop-g.invariant (omega (arith, c.loop-g.invariant.long)))

-- src/lib.rt:137:47
pub overflow_cast-g : goal.overflow_cast-g
overflow_cast-g c = omega (arith, turn c.requires c.loop-g.invariant (omega (arith, c.loop-g.invariant.long)))

-- src/lib.rt:137:33
pub number_length-requires : goal.number_length-requires
number_length-requires c = tt

-- src/lib.rt:137:21
pub overflow_add-bytes-then-words-g-eq2 : goal.overflow_add-bytes-then-words-g-eq2
overflow_add-bytes-then-words-g-eq2 c = omega (arith, turn c.requires c.loop-g.invariant (omega (arith, c.loop-g.invariant.long)), c.number_length.ensures, decimal_short c.loop-g.g)

-- src/lib.rt:133:5
pub loop-g-preserved : goal.loop-g-preserved
loop-g-preserved c = let p = c.requires in
    let h : c.loop-g.g < length c.loop-g.words = omega (arith, c.loop-g.invariant.long) in
    elim c.if-words-g-eq2.branch [ then-words-g-eq2 w ↦ rw (w.bytes-is, w.words-is) (flagged p c.loop-g.invariant h w.if-words-g-eq2.true w.view-c.ensures w.flags.ensures w.number_length.ensures) | else-words-g-eq2 w ↦ rw (w.bytes-is, w.words-is) (passed p c.loop-g.invariant h w.if-words-g-eq2.false) ]

-- src/lib.rt:127:1
pub shape_of-words : goal.shape_of-words
shape_of-words c = c.loop-g.invariant.long

-- src/lib.rt:127:1
pub returns : goal.returns
returns c = done c.requires c.loop-g.invariant (omega (arith, c.loop-g.invariant.long))
