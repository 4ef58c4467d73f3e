-- `list_text::row_length` meets its contract: the lengths of the lines of the entries before i are summed. Assumes nothing.
use mathlib.Core.Path.{ap, ◌∙◌}
use Prim.Native.Nat.{ℕ}
use native.Mathlib.Omega.{arith}
use lib.ListN.{length}
use Rattle.list_text.specs.Written.{first_of, last_of, kind_text, line_at}
use Rattle.list_text.proofs.Onward.{sum_begin, sum_on, sum_done}
use Rattle.list_text.proofs.row_length.Goals as goal

pub loop-i-init : goal.loop-i-init
loop-i-init c = record { summed = sum_begin (line_at c.args.work.now c.args.row (first_of c.args.section) (last_of c.args.section)) c.args.n; small = omega arith }

pub overflow_add-row : goal.overflow_add-row
overflow_add-row c = omega (arith, c.requires, c.loop-i-test.true)

pub offset_bounds-work-row : goal.offset_bounds-work-row
offset_bounds-work-row c = omega (arith, c.requires, c.loop-i-test.true)

pub bounds-work-row : goal.bounds-work-row
bounds-work-row c = omega (arith, c.requires, c.loop-i-test.true)

pub told_kind-kind-requires : goal.told_kind-kind-requires
told_kind-kind-requires c = tt

pub overflow_cast-i : goal.overflow_cast-i
overflow_cast-i c = omega (arith, c.requires, c.loop-i-test.true)

pub line_length-total-requires : goal.line_length-total-requires
line_length-total-requires c = tt

pub overflow_add-total : goal.overflow_add-total
overflow_add-total c = omega (arith, c.requires, c.loop-i-test.true, c.loop-i.invariant.small, c.line_length-total.ensures.upper_bound)

pub loop-i-preserved : goal.loop-i-preserved
loop-i-preserved c = let i = c.loop-i.i in
    record {
      summed = sum_on (line_at c.args.work.now c.args.row (first_of c.args.section) (last_of c.args.section)) c.args.n c.loop-i.invariant.summed c.loop-i-test.true (c.line_length-total.ensures.value ∙ ap (λ (k : ℕ). length (kind_text k i)) c.told_kind-kind.ensures);
      small = omega (arith, c.loop-i.invariant.small, c.line_length-total.ensures.upper_bound);
    }

pub returns : goal.returns
returns c = let v = c.loop-i.invariant in
    let m = v.summed.at_most in
    record { value = sum_done (line_at c.args.work.now c.args.row (first_of c.args.section) (last_of c.args.section)) c.args.n v.summed c.loop-i-test.false; upper_bound = omega (arith, v.small, m) }
