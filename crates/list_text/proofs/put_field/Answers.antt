-- `list_text::put_field` meets its contract. Assumes nothing.
use mathlib.Core.Path.{◌∙◌}
use native.Mathlib.Omega.{arith}
use lib.ListN.{length-set}
use Rattle.byte_rows.proofs.Putting.{puts_one, puts_both}
use Rattle.list_text.proofs.put_field.Goals as goal

pub put_number-requires : goal.put_number-requires
put_number-requires c = record { short = omega arith; room = simp length-set (omega (arith, c.requires)) }

pub shape_of-text : goal.shape_of-text
shape_of-text c = c.put_number.ensures.only.long ∙ length-set c.args.text.now c.args.at 9

pub returns : goal.returns
returns c = puts_both (puts_one _ _ 9 (omega (arith, c.requires))) c.put_number.ensures
