-- `list_text::split_length` meets its contract: letter, two numbers, the faces and the newline. Assumes nothing.
use Prim.Native.Nat.{◌+◌}
use native.Mathlib.Omega.{arith}
use lib.ListN.{get_or}
use Rattle.rule_laws.proofs.Digits.{decimal_short}
use Rattle.list_text.proofs.OneSplit.{split_long}
use Rattle.list_text.proofs.split_length.Goals as goal

pub overflow_add-result : goal.overflow_add-result
overflow_add-result c = omega (arith, c.number_length-old.ensures, decimal_short (get_or c.args.work.now (c.args.rows.olds + c.args.j) 0))

pub overflow_add-result-2 : goal.overflow_add-result-2
overflow_add-result-2 c = omega (arith, c.number_length-old.ensures, decimal_short (get_or c.args.work.now (c.args.rows.olds + c.args.j) 0), c.number_length-new.ensures, decimal_short (c.args.rows.points + c.args.j))

pub overflow_add-result-3 : goal.overflow_add-result-3
overflow_add-result-3 c = omega (arith, c.number_length-old.ensures, decimal_short (get_or c.args.work.now (c.args.rows.olds + c.args.j) 0), c.number_length-new.ensures, decimal_short (c.args.rows.points + c.args.j), c.takers_length.ensures.from_bound, c.requires.run.inside, c.requires.run.sorted.few)

pub returns : goal.returns
returns c = record {
  value = omega (arith, c.number_length-old.ensures, c.number_length-new.ensures, c.takers_length.ensures.value, split_long c.args.work.now c.args.origins.now c.args.rows c.args.j c.args.from c.args.to);
  from_bound = omega (arith, c.number_length-old.ensures, decimal_short (get_or c.args.work.now (c.args.rows.olds + c.args.j) 0), c.number_length-new.ensures, decimal_short (c.args.rows.points + c.args.j), c.takers_length.ensures.from_bound);
}
