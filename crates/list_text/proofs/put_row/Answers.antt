-- `list_text::put_row` meets its contract: the lines of the entries before i are put. Assumes nothing.
use mathlib.Core.Path.{sym, subst}
use Prim.Native.Nat.{ℕ, ◌+◌, ◌≤◌}
use native.Mathlib.Omega.{arith}
use lib.ListN.{length}
use Rattle.list_text.specs.Written.{first_of, last_of, kind_text, line_at}
use Rattle.list_text.proofs.Onward.{row_begin, row_room, row_on, row_done}
use Rattle.list_text.proofs.put_row.Goals as goal

pub loop-i-init : goal.loop-i-init
loop-i-init c = row_begin (line_at c.args.work.now c.args.row (first_of c.args.section) (last_of c.args.section)) c.args.n c.requires.last_in_bounds

pub overflow_add-row : goal.overflow_add-row
overflow_add-row c = omega (arith, c.requires.row_asks, c.loop-i-test.true)

pub offset_bounds-work-row : goal.offset_bounds-work-row
offset_bounds-work-row c = omega (arith, c.requires.row_asks, c.loop-i-test.true)

pub bounds-work-row : goal.bounds-work-row
bounds-work-row c = omega (arith, c.requires.row_asks, c.loop-i-test.true)

pub told_kind-kind-requires : goal.told_kind-kind-requires
told_kind-kind-requires c = tt

pub overflow_cast-i : goal.overflow_cast-i
overflow_cast-i c = omega (arith, c.requires.row_asks, c.loop-i-test.true)

pub put_line-next-requires : goal.put_line-next-requires
put_line-next-requires c = let v = c.loop-i.invariant in
    subst (λ (k : ℕ). c.loop-i.next + length (kind_text k c.loop-i.i) ≤ length c.loop-i.text) (sym c.told_kind-kind.ensures)
    (row_room (line_at c.args.work.now c.args.row (first_of c.args.section) (last_of c.args.section)) c.args.n v c.loop-i-test.true)

pub loop-i-preserved : goal.loop-i-preserved
loop-i-preserved c = row_on (line_at c.args.work.now c.args.row (first_of c.args.section) (last_of c.args.section)) c.args.n c.loop-i.invariant c.loop-i-test.true
    (rw c.told_kind-kind.ensures at c.put_line-next.ensures)

pub shape_of-text : goal.shape_of-text
shape_of-text c = c.loop-i.invariant.sofar.puts.only.long

pub returns : goal.returns
returns c = row_done (line_at c.args.work.now c.args.row (first_of c.args.section) (last_of c.args.section)) c.args.n c.loop-i.invariant c.loop-i-test.false
