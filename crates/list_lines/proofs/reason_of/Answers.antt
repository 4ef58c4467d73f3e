-- `list_lines::reason_of` meets its contract: by pass and word. Assumes nothing.
use native.Mathlib.Omega.{arith}
use Rattle.rules.specs.Line.{bytes}
use Rattle.list_lines.proofs.Reasons.{why_repeated, why_thin, why_no_first, why_duplicate, why_no_second, why_edge, why_no_third, why_direction, why_no_fourth, why_no_pass}
use Rattle.list_lines.proofs.reason_of.Goals as goal

pub returns-in-1 : goal.returns-in-1
unfolding bytes
returns-in-1 c = why_repeated _ c.in-1.is c.if-same.ensures

pub returns-in-1-2 : goal.returns-in-1-2
unfolding bytes
returns-in-1-2 c = why_thin _ c.in-1.is c.if-same.ensures c.if-same-2.ensures

pub returns-in-2 : goal.returns-in-2
unfolding bytes
returns-in-2 c = why_duplicate _ c.in-2.is c.if-same-3.ensures

pub returns-in-3 : goal.returns-in-3
unfolding bytes
returns-in-3 c = why_edge _ c.in-3.is c.if-same-4.ensures

pub returns-in-4 : goal.returns-in-4
unfolding bytes
returns-in-4 c = why_direction _ c.in-4.is c.if-same-5.ensures

pub returns-in_default : goal.returns-in_default
unfolding bytes
returns-in_default c = why_no_first _ c.in-1.is c.if-same.ensures c.if-same-2.ensures

pub returns-in_default-2 : goal.returns-in_default-2
unfolding bytes
returns-in_default-2 c = why_no_second _ c.in-2.is c.if-same-3.ensures

pub returns-in_default-3 : goal.returns-in_default-3
unfolding bytes
returns-in_default-3 c = why_no_third _ c.in-3.is c.if-same-4.ensures

pub returns-in_default-4 : goal.returns-in_default-4
unfolding bytes
returns-in_default-4 c = why_no_fourth _ c.in-4.is c.if-same-5.ensures

pub returns-in_default-5 : goal.returns-in_default-5
returns-in_default-5 c = why_no_pass _ (omega arith) (omega arith) (omega arith) (omega arith)
