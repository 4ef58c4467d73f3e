-- `text_out::put_mesh` meets its contract. Assumes nothing.
use native.Mathlib.Omega.{arith}
use Rattle.text_out.proofs.Lines.{mesh_done}
use Rattle.text_out.proofs.put_mesh.Goals as goal

pub put_points-faces_at-requires : goal.put_points-faces_at-requires
put_points-faces_at-requires c = record { room = omega (arith, c.requires.room); few = c.requires.few_points; numbers = c.requires.numbers }

pub put_faces-report_at-requires : goal.put_faces-report_at-requires
put_faces-report_at-requires c = record { room = omega (arith, c.requires.room, c.put_points-faces_at.ensures.short, c.put_points-faces_at.ensures.puts.only.long); few = c.requires.few_faces }

pub put_report-requires : goal.put_report-requires
put_report-requires c = record { room = omega (arith, c.requires.room, c.put_points-faces_at.ensures.short, c.put_points-faces_at.ensures.puts.only.long, c.put_faces-report_at.ensures.short, c.put_faces-report_at.ensures.puts.only.long) }

pub returns : goal.returns
returns c = mesh_done c.args.points.now c.args.faces.now c.args.report.now c.put_points-faces_at.ensures.puts c.put_faces-report_at.ensures.puts c.put_report.ensures
