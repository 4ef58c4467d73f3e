-- `searched_length::all_lines` meets its contract: the lengths of the passes are added up. Assumes nothing.
use native.Mathlib.Omega.{arith}
use Rattle.searched_length.proofs.Whole.{first_ask, next_ask, end_ask, all_told, text_short}
use Rattle.searched_length.proofs.all_lines.Goals as goal

pub first-first-requires : goal.first-first-requires
first-first-requires c = first_ask c.requires

pub second-second-requires : goal.second-second-requires
second-second-requires c = record { pass_asks = next_ask (first_ask c.requires) c.first-first.ensures; indexed = c.requires.indexed }

pub third-third-requires : goal.third-third-requires
third-third-requires c = record { pass_asks = next_ask (next_ask (first_ask c.requires) c.first-first.ensures) c.second-second.ensures; indexed = c.requires.indexed }

pub fourth-fourth-requires : goal.fourth-fourth-requires
fourth-fourth-requires c = record { pass_asks = next_ask (next_ask (next_ask (first_ask c.requires) c.first-first.ensures) c.second-second.ensures) c.third-third.ensures; indexed = c.requires.indexed }

pub ending-ends-requires : goal.ending-ends-requires
ending-ends-requires c = record { end_asks = end_ask (next_ask (next_ask (next_ask (first_ask c.requires) c.first-first.ensures) c.second-second.ensures) c.third-third.ensures) c.requires.input c.fourth-fourth.ensures; indexed = c.requires.indexed }

pub overflow_add-result : goal.overflow_add-result
overflow_add-result c = omega (arith, all_told c.requires c.args.s c.args.options c.first-first.ensures c.second-second.ensures c.third-third.ensures c.fourth-fourth.ensures c.ending-ends.ensures, text_short c.requires.input c.args.s c.args.options)

pub overflow_add-result-2 : goal.overflow_add-result-2
overflow_add-result-2 c = omega (arith, all_told c.requires c.args.s c.args.options c.first-first.ensures c.second-second.ensures c.third-third.ensures c.fourth-fourth.ensures c.ending-ends.ensures, text_short c.requires.input c.args.s c.args.options)

pub overflow_add-result-3 : goal.overflow_add-result-3
overflow_add-result-3 c = omega (arith, all_told c.requires c.args.s c.args.options c.first-first.ensures c.second-second.ensures c.third-third.ensures c.fourth-fourth.ensures c.ending-ends.ensures, text_short c.requires.input c.args.s c.args.options)

pub overflow_add-result-4 : goal.overflow_add-result-4
overflow_add-result-4 c = omega (arith, all_told c.requires c.args.s c.args.options c.first-first.ensures c.second-second.ensures c.third-third.ensures c.fourth-fourth.ensures c.ending-ends.ensures, text_short c.requires.input c.args.s c.args.options)

pub overflow_add-result-5 : goal.overflow_add-result-5
overflow_add-result-5 c = omega (arith, all_told c.requires c.args.s c.args.options c.first-first.ensures c.second-second.ensures c.third-third.ensures c.fourth-fourth.ensures c.ending-ends.ensures, text_short c.requires.input c.args.s c.args.options)

pub returns : goal.returns
returns c = all_told c.requires c.args.s c.args.options c.first-first.ensures c.second-second.ensures c.third-third.ensures c.fourth-fourth.ensures c.ending-ends.ensures
