-- `text_out::put_report` meets its contract. Assumes nothing.
use mathlib.Core.Path.{◌∙◌}
use native.Mathlib.Omega.{arith}
use lib.ListN.{length-set}
use Rattle.text_out.proofs.Lines.{report_done}
use Rattle.text_out.proofs.put_report.Goals as goal

pub put_counts-end-requires : goal.put_counts-end-requires
put_counts-end-requires c = record { room = omega (arith, length-set c.args.out.now c.args.at 114, c.requires.room) }

pub bounds-out-end : goal.bounds-out-end
bounds-out-end c = omega (arith, length-set c.args.out.now c.args.at 114, c.requires.room, c.put_counts-end.ensures.short, c.put_counts-end.ensures.puts.only.long)

pub shape_of-out : goal.shape_of-out
shape_of-out c = length-set c.put_counts-end.new.out c.put_counts-end.result 10 ∙ c.put_counts-end.ensures.puts.only.long ∙ length-set c.args.out.now c.args.at 114

pub returns : goal.returns
returns c = report_done c.args.report.now (omega (arith, c.requires.room)) c.put_counts-end.ensures.puts (omega (arith, length-set c.args.out.now c.args.at 114, c.requires.room, c.put_counts-end.ensures.short, c.put_counts-end.ensures.puts.only.long))
