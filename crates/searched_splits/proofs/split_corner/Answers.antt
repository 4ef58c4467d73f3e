-- `searched_splits::split_corner` meets its contract, by the pure steps of `Stepping`. Assumes nothing.
use mathlib.Core.Path.{ap, ◌∙◌}
use mathlib.Core.Bool.{not}
use Prim.Native.Nat.{◌+◌}
use native.Mathlib.Omega.{arith}
use Rattle.rule_laws.proofs.Digits.{decimal_short}
use Rattle.face_words.specs.Words.{view}
use Rattle.searched_splits.proofs.Reading.{corner_picked}
use Rattle.searched_splits.proofs.Closing.{bit_most}
use Rattle.searched_splits.proofs.Stepping.{passed, bounds, close_ask, closed, opened, mark_small}
use Rattle.searched_splits.proofs.split_corner.Goals as goal

-- src/lib.rt:168:9
pub returns-then-flagged : goal.returns-then-flagged
returns-then-flagged c = λ q. passed q c.flagged.ensures c.if-flagged.true

-- src/lib.rt:173:9
pub close-taken-requires : goal.close-taken-requires
close-taken-requires c = let pe = c.corner-v.ensures ∙ corner_picked (view c.args.faces.now c.args.words.now c.args.f) c.args.k c.requires.corner_asks.corner in
    record { close_asks = close_ask c.requires.corner_asks c.flagged.ensures c.if-flagged.false pe; indexed = c.requires.indexed }

-- src/lib.rt:175:9
pub returns-then-not-extra : goal.returns-then-not-extra
returns-then-not-extra c = let pe = c.corner-v.ensures ∙ corner_picked (view c.args.faces.now c.args.words.now c.args.f) c.args.k c.requires.corner_asks.corner in
    λ q. closed q c.flagged.ensures c.if-flagged.false pe c.close-taken.ensures c.met_at-extra.ensures (ap not c.if-not-extra.true)

-- src/lib.rt:177:27
pub overflow_mul-words : goal.overflow_mul-words
overflow_mul-words c = omega (arith, c.bit.ensures, bit_most c.args.k)

-- src/lib.rt:177:16
pub overflow_add-words : goal.overflow_add-words
overflow_add-words c = let pe = c.corner-v.ensures ∙ corner_picked (view c.args.faces.now c.args.words.now c.args.f) c.args.k c.requires.corner_asks.corner in
    omega (arith, c.bit.ensures, bit_most c.args.k, mark_small c.requires.corner_asks c.flagged.ensures c.if-flagged.false pe c.close-taken.ensures)

-- src/lib.rt:177:5
pub offset_bounds-words-f-3 : goal.offset_bounds-words-f-3
offset_bounds-words-f-3 c = omega (arith, c.requires.corner_asks.here, c.requires.corner_asks.split.worded.few)

-- src/lib.rt:179:30
pub overflow_add-points : goal.overflow_add-points
overflow_add-points c = omega (arith, bounds c.requires.corner_asks)

-- src/lib.rt:179:29
pub overflow_cast-points : goal.overflow_cast-points
overflow_cast-points c = omega (arith, bounds c.requires.corner_asks)

-- src/lib.rt:180:20
pub overflow_add-result : goal.overflow_add-result
overflow_add-result c = omega (arith, bounds c.requires.corner_asks, c.number_length-old.ensures, c.number_length-new.ensures, c.close-taken.ensures.most, decimal_short c.corner-v.result, decimal_short (c.args.points + c.args.told.splits))

-- src/lib.rt:180:39
pub overflow_add-result-2 : goal.overflow_add-result-2
overflow_add-result-2 c = omega (arith, bounds c.requires.corner_asks, c.number_length-old.ensures, c.number_length-new.ensures, c.close-taken.ensures.most, decimal_short c.corner-v.result, decimal_short (c.args.points + c.args.told.splits))

-- src/lib.rt:180:39
pub overflow_add-result-3 : goal.overflow_add-result-3
overflow_add-result-3 c = omega (arith, bounds c.requires.corner_asks, c.number_length-old.ensures, c.number_length-new.ensures, c.close-taken.ensures.most, decimal_short c.corner-v.result, decimal_short (c.args.points + c.args.told.splits))

-- src/lib.rt:180:39
pub overflow_add-result-4 : goal.overflow_add-result-4
overflow_add-result-4 c = omega (arith, bounds c.requires.corner_asks, c.number_length-old.ensures, c.number_length-new.ensures, c.close-taken.ensures.most, decimal_short c.corner-v.result, decimal_short (c.args.points + c.args.told.splits))

-- src/lib.rt:180:39
pub overflow_add-result-5 : goal.overflow_add-result-5
overflow_add-result-5 c = omega (arith, bounds c.requires.corner_asks, c.number_length-old.ensures, c.number_length-new.ensures, c.close-taken.ensures.most, decimal_short c.corner-v.result, decimal_short (c.args.points + c.args.told.splits))

-- src/lib.rt:155:1
pub returns : goal.returns
returns c = let pe = c.corner-v.ensures ∙ corner_picked (view c.args.faces.now c.args.words.now c.args.f) c.args.k c.requires.corner_asks.corner in
    λ q. opened q c.flagged.ensures c.if-flagged.false pe c.close-taken.ensures c.met_at-extra.ensures (ap not c.if-not-extra.false) c.bit.ensures c.number_length-old.ensures c.number_length-new.ensures
