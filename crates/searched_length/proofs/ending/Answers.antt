-- `searched_length::ending` meets its contract: each of both passes on or off. Assumes nothing.
use native.Mathlib.Omega.{arith}
use Rattle.searched_length.proofs.LastTwo.{both_off, only_six, only_five, both_on, lost-ask, kept_few, all_few, lost_few, six_told}
use Rattle.searched_length.proofs.ending.Goals as goal

pub returns-then-not-unused : goal.returns-then-not-unused
returns-then-not-unused c = both_off c.requires.end_asks c.args.split c.args.unused c.if-not-split.true c.if-not-unused.true

pub returns-then-not-split : goal.returns-then-not-split
returns-then-not-split c = only_six c.requires.end_asks c.args.split c.args.unused c.if-not-split.true c.if-not-unused.false c.unused_length-sixth.ensures

pub returns-then-not-unused-2 : goal.returns-then-not-unused-2
returns-then-not-unused-2 c = only_five c.requires.end_asks c.split_length-told.ensures c.args.split c.args.unused c.if-not-split.false c.if-not-unused-2.true

pub lost_length-lost-requires : goal.lost_length-lost-requires
lost_length-lost-requires c = lost-ask c.requires.end_asks c.split_length-told-2.ensures

pub overflow_sub-result : goal.overflow_sub-result
overflow_sub-result c = kept_few c.requires.end_asks c.all_length-every.ensures c.kept_length-kept.ensures

pub overflow_add-result : goal.overflow_add-result
overflow_add-result c = let p = c.requires.end_asks in omega (arith, all_few p c.all_length-every.ensures c.kept_length-kept.ensures, lost_few p c.all_length-every.ensures c.kept_length-kept.ensures (c.lost_length-lost.ensures (lost-ask p c.split_length-told-2.ensures)), p.few)

pub returns : goal.returns
returns c = both_on c.requires.end_asks c.split_length-told-2.ensures c.args.split c.args.unused c.if-not-split.false c.if-not-unused-2.false (six_told c.requires.end_asks c.all_length-every.ensures c.kept_length-kept.ensures (c.lost_length-lost.ensures (lost-ask c.requires.end_asks c.split_length-told-2.ensures)))
