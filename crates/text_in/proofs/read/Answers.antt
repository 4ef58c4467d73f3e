-- `text_in::read` meets its contract: the first line, and then the others. Assumes nothing.
use mathlib.Core.Path.{sym}
use native.Mathlib.Omega.{arith}
use Rattle.rows.proofs.Regions.{length_part}
use Rattle.text_in.proofs.Lines.{too_long, no_line, not_opened, opened_read}
use Rattle.text_in.proofs.read.Goals as goal

pub returns-then-text-gt8192 : goal.returns-then-text-gt8192
returns-then-text-gt8192 c = record { faces_after = too_long _ c.if-text-gt8192.true; told_within = tt }

pub returns-then-end-text : goal.returns-then-end-text
returns-then-end-text c = record { faces_after = no_line c.if-text-gt8192.false c.find-end.ensures c.if-end-text.true; told_within = tt }

pub slice_bounds-first_line-end : goal.slice_bounds-first_line-end
slice_bounds-first_line-end c = sym (length_part _ 0 _ (omega (arith, c.find-end.ensures.ends)))

pub returns-in_err-opened : goal.returns-in_err-opened
returns-in_err-opened c = rw c.from_residual.ensures (record { faces_after = not_opened c.if-text-gt8192.false c.find-end.ensures c.if-end-text.false c.in_err-opened.ensures; told_within = tt })

pub returns : goal.returns
returns c = record { faces_after = opened_read c.if-text-gt8192.false c.find-end.ensures c.if-end-text.false c.in_ok-opened.ensures c.read_lines.ensures.faces_after; told_within = c.read_lines.ensures.told_within }
