-- `text_out::put_whole` meets its contract. Assumes nothing.
use mathlib.Core.Path.{◌∙◌}
use native.Mathlib.Omega.{arith}
use lib.ListN.{length-set}
use Rattle.rule_laws.proofs.Digits.{decimal_short}
use Rattle.text_out.proofs.Lines.{byte_text}
use Rattle.text_out.proofs.put_whole.Goals as goal

pub put_number-requires : goal.put_number-requires
put_number-requires c = record { short = omega arith; room = simp length-set (omega (arith, c.requires, decimal_short c.args.n)) }

pub shape_of-out : goal.shape_of-out
shape_of-out c = c.put_number.ensures.only.long ∙ length-set c.args.out.now c.args.at 9

pub returns : goal.returns
returns c = byte_text 9 (omega (arith, c.requires)) c.put_number.ensures
