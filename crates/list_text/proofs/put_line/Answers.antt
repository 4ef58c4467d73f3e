-- `list_text::put_line` meets its contract: letter, number and tail, if there is a line. Assumes nothing.
use mathlib.Core.Path.{◌∙◌}
use native.Mathlib.Omega.{arith}
use lib.ListN.{length-set}
use Rattle.byte_rows.proofs.Putting.{puts_none}
use Rattle.list_text.specs.Written.{code_of}
use Rattle.list_text.proofs.EachKind.{code_some, line_parts, line_put}
use Rattle.list_text.proofs.put_line.Goals as goal

pub returns-in-None : goal.returns-in-None
returns-in-None c = rw c.in-None.is (puts_none (omega (arith, c.requires)))

pub bounds-text-at : goal.bounds-text-at
bounds-text-at c = omega (arith, line_parts (code_of c.in-Some.kind) c.args.n (code_some c.in-Some.kind), rw c.in-Some.is at c.requires)

pub put_field-next-requires : goal.put_field-next-requires
put_field-next-requires c = simp length-set (omega (arith, line_parts (code_of c.in-Some.kind) c.args.n (code_some c.in-Some.kind), rw c.in-Some.is at c.requires))

pub put_tail-requires : goal.put_tail-requires
put_tail-requires c = omega (arith, line_parts (code_of c.in-Some.kind) c.args.n (code_some c.in-Some.kind), rw c.in-Some.is at c.requires, c.put_field-next.ensures.ends, c.put_field-next.ensures.only.long, length-set c.args.text.now c.args.at c.letter.result)

pub shape_of-text : goal.shape_of-text
shape_of-text c = c.put_tail.ensures.only.long ∙ c.put_field-next.ensures.only.long ∙ length-set c.args.text.now c.args.at c.letter.result

pub returns-in-Some : goal.returns-in-Some
returns-in-Some c = rw c.in-Some.is (line_put (code_of c.in-Some.kind) c.args.n (code_some c.in-Some.kind) (omega (arith, line_parts (code_of c.in-Some.kind) c.args.n (code_some c.in-Some.kind), rw c.in-Some.is at c.requires)) c.letter.ensures c.put_field-next.ensures c.put_tail.ensures)
