-- `searched_ranks::rank` meets its contract: face after face. Assumes nothing.
use mathlib.Core.Path.{sym, ◌∙◌}
use native.Mathlib.Omega.{arith}
use Rattle.searched_ranks.proofs.Counting.{begin, more, same, done, count_most}
use Rattle.searched_ranks.proofs.rank.Goals as goal
use Rattle.searched_ranks.proofs.rank.Goals.{else-stands, then-stands}

-- src/lib.rt:63:5
pub loop-g-init : goal.loop-g-init
loop-g-init c = begin _ _ _ _

-- src/lib.rt:64:12
pub stands-requires : goal.stands-requires
stands-requires c = c.loop-g-test.true

-- src/lib.rt:65:29
pub rank_corner-requires : goal.rank_corner-requires
rank_corner-requires c = record { worded = c.requires.worded; here = c.loop-g-test.true; corner = omega arith }

-- src/lib.rt:65:21
pub overflow_add-count : goal.overflow_add-count
overflow_add-count c =
    let p = c.args in
    let most = count_most p.faces.now p.words.now p.v p.id c.loop-g.g in
    omega (arith, c.requires.worded.few, c.loop-g.invariant.few, c.loop-g-test.true, c.rank_corner.ensures, c.rank_corner-then-stands.ensures, most 0, most 1, most 2)

-- src/lib.rt:65:70
pub rank_corner-requires-then-stands : goal.rank_corner-requires-then-stands
rank_corner-requires-then-stands c = record { worded = c.requires.worded; here = c.loop-g-test.true; corner = omega arith }

-- src/lib.rt:65:21
pub overflow_add-count-then-stands : goal.overflow_add-count-then-stands
overflow_add-count-then-stands c =
    let p = c.args in
    let most = count_most p.faces.now p.words.now p.v p.id c.loop-g.g in
    omega (arith, c.requires.worded.few, c.loop-g.invariant.few, c.loop-g-test.true, c.rank_corner.ensures, c.rank_corner-then-stands.ensures, c.rank_corner-then-stands-2.ensures, most 0, most 1, most 2)

-- src/lib.rt:66:19
pub rank_corner-requires-then-stands-2 : goal.rank_corner-requires-then-stands-2
rank_corner-requires-then-stands-2 c = record { worded = c.requires.worded; here = c.loop-g-test.true; corner = omega arith }

-- src/lib.rt:65:21
pub overflow_add-count-then-stands-2 : goal.overflow_add-count-then-stands-2
overflow_add-count-then-stands-2 c =
    let p = c.args in
    let most = count_most p.faces.now p.words.now p.v p.id c.loop-g.g in
    omega (arith, c.requires.worded.few, c.loop-g.invariant.few, c.loop-g-test.true, c.rank_corner.ensures, c.rank_corner-then-stands.ensures, c.rank_corner-then-stands-2.ensures, most 0, most 1, most 2)

-- src/lib.rt:63:5
pub loop-g-preserved : goal.loop-g-preserved
loop-g-preserved c = let i = c.loop-g.invariant in
    elim c.if-stands.branch [ then-stands w ↦ rw w.count-is (more i c.loop-g-test.true (sym c.stands.ensures ∙ w.if-stands.true) w.rank_corner.ensures w.rank_corner-then-stands.ensures w.rank_corner-then-stands-2.ensures) | else-stands w ↦ rw w.count-is (same i c.loop-g-test.true (sym c.stands.ensures ∙ w.if-stands.false)) ]

-- src/lib.rt:57:1
pub returns : goal.returns
returns c = done c.loop-g.invariant c.loop-g-test.false
