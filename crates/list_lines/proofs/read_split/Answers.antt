-- `list_lines::read_split` meets its contract: two numbers, and faces that rise. Assumes nothing.
use mathlib.Core.Path.{sym, ◌∙◌}
use Prim.Native.Nat.{◌+◌}
use native.Mathlib.Omega.{arith}
use Rattle.list_lines.proofs.Fields.{on_fits, part_long}
use Rattle.list_lines.proofs.Telling.{split_none, split_short, split_second, split_not, split_is}
use Rattle.list_lines.proofs.read_split.Goals as goal

pub returns-in_err-old : goal.returns-in_err-old
returns-in_err-old c = rw c.from_residual.ensures (split_none c.args.text.now c.args.from c.args.end c.in_err-old.ensures)

pub overflow_add-second : goal.overflow_add-second
overflow_add-second c = omega (arith, on_fits _ _ _ c.in_ok-old.ensures (omega arith) c.requires.ends)

pub returns-then-second-end : goal.returns-then-second-end
returns-then-second-end c = split_short _ _ _ c.in_ok-old.ensures c.if-second-end.true

pub slice_bounds-read_number-count-2 : goal.slice_bounds-read_number-count-2
slice_bounds-read_number-count-2 c = omega (arith, on_fits _ _ _ c.in_ok-old.ensures (omega arith) c.requires.ends)

pub read_number-requires-2 : goal.read_number-requires-2
read_number-requires-2 c = omega (arith, on_fits _ _ _ c.in_ok-old.ensures (omega arith) c.requires.ends, part_long c.args.text.now (c.args.from + c.in_ok-old.old.end) c.args.end (on_fits _ _ _ c.in_ok-old.ensures (omega arith) c.requires.ends) c.requires.ends)

pub returns-in_err-new : goal.returns-in_err-new
returns-in_err-new c = rw c.from_residual-in_err-new.ensures (split_second _ _ _ c.in_ok-old.ensures c.in_err-new.ensures)

pub overflow_add-fields : goal.overflow_add-fields
overflow_add-fields c = omega (arith, on_fits _ _ _ c.in_ok-new.ensures (on_fits _ _ _ c.in_ok-old.ensures (omega arith) c.requires.ends) c.requires.ends)

pub slice_bounds-all_rise-count : goal.slice_bounds-all_rise-count
slice_bounds-all_rise-count c = omega (arith, on_fits _ _ _ c.in_ok-new.ensures (on_fits _ _ _ c.in_ok-old.ensures (omega arith) c.requires.ends) c.requires.ends)

pub returns-then-all_rise : goal.returns-then-all_rise
returns-then-all_rise c = split_is _ _ _ c.in_ok-old.ensures c.in_ok-new.ensures (on_fits _ _ _ c.in_ok-new.ensures (on_fits _ _ _ c.in_ok-old.ensures (omega arith) c.requires.ends) c.requires.ends) c.requires.ends (sym c.if-all_rise.true ∙ c.all_rise.ensures)

pub returns : goal.returns
returns c = split_not _ _ _ c.in_ok-old.ensures c.in_ok-new.ensures (sym c.if-all_rise.false ∙ c.all_rise.ensures)
