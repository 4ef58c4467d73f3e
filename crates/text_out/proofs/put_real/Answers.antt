-- `text_out::put_real` meets its contract. Assumes nothing.
use mathlib.Core.Path.{◌∙◌}
use native.Mathlib.Omega.{arith}
use lib.ListN.{length-set}
use Rattle.text_out.proofs.Lines.{byte_text}
use Rattle.text_out.proofs.put_real.Goals as goal

pub put_hex-requires : goal.put_hex-requires
put_hex-requires c = omega (arith, length-set c.args.out.now c.args.at 9, c.requires.room)

pub shape_of-out : goal.shape_of-out
shape_of-out c = c.put_hex.ensures.only.long ∙ length-set c.args.out.now c.args.at 9

pub returns : goal.returns
returns c = byte_text 9 (omega (arith, c.requires.room)) c.put_hex.ensures
