-- `list_lines::read_dropped` meets its contract: a face, and a reason behind it. Assumes nothing.
use Prim.Native.Nat.{◌+◌}
use native.Mathlib.Omega.{arith}
use Rattle.list_lines.proofs.Fields.{on_fits, part_long}
use Rattle.list_lines.proofs.Telling.{dropped_none, dropped_short, dropped_bad, none_told, some_told, dropped_is}
use Rattle.list_lines.proofs.read_dropped.Goals as goal

pub returns-in_err-face : goal.returns-in_err-face
returns-in_err-face c = rw c.from_residual.ensures (dropped_none c.args.text.now c.args.from c.args.end c.in_err-face.ensures)

pub overflow_add-at : goal.overflow_add-at
overflow_add-at c = omega (arith, on_fits _ _ _ c.in_ok-face.ensures (omega arith) c.requires.ends)

pub returns-then-at-end : goal.returns-then-at-end
returns-then-at-end c = dropped_short _ _ _ c.in_ok-face.ensures c.if-at-end.true

pub slice_bounds-read_reason-count : goal.slice_bounds-read_reason-count
slice_bounds-read_reason-count c = omega (arith, on_fits _ _ _ c.in_ok-face.ensures (omega arith) c.requires.ends)

pub read_reason-requires : goal.read_reason-requires
read_reason-requires c = omega (arith, on_fits _ _ _ c.in_ok-face.ensures (omega arith) c.requires.ends, part_long c.args.text.now (c.args.from + c.in_ok-face.face.end) c.args.end (omega (arith, on_fits _ _ _ c.in_ok-face.ensures (omega arith) c.requires.ends)) c.requires.ends)

pub returns-in_err-reason : goal.returns-in_err-reason
returns-in_err-reason c = rw c.from_residual-in_err-reason.ensures (dropped_bad _ _ _ c.in_ok-face.ensures (none_told c.in_err-reason.ensures))

pub returns : goal.returns
returns c = dropped_is _ _ _ c.in_ok-face.ensures (some_told _ c.in_ok-reason.ensures)
