-- `write_ply::put_header` meets its contract: text, count, text, count, text, one behind the other. Assumes nothing.
use native.Mathlib.Omega.{arith}
use Rattle.rules.specs.Line.{bytes}
use Rattle.rules.specs.Ply.{before_vertices, before_faces, after_counts}
use Rattle.write_ply.proofs.Putting.{parts, header_put}
use Rattle.write_ply.proofs.put_header.Goals as goal

pub put_text-a-requires : goal.put_text-a-requires
put_text-a-requires c = omega (arith, parts c.requires)

pub put_number-b-requires : goal.put_number-b-requires
put_number-b-requires c = let text = c.put_text-a.ensures in
    let q = parts c.requires in
    record { short = q.vertices; room = omega (arith, q, text.ends, text.only.long) }

pub put_text-c-requires : goal.put_text-c-requires
put_text-c-requires c = let text = c.put_text-a.ensures in
    let number = c.put_number-b.ensures in
    omega (arith, parts c.requires, text.ends, text.only.long, number.ends, number.only.long)

pub put_number-d-requires : goal.put_number-d-requires
put_number-d-requires c = let text = c.put_text-a.ensures in
    let number = c.put_number-b.ensures in
    let text2 = c.put_text-c.ensures in
    let q = parts c.requires in
    record { short = q.faces; room = omega (arith, q, text.ends, text.only.long, number.ends, number.only.long, text2.ends, text2.only.long) }

pub put_text-requires : goal.put_text-requires
put_text-requires c = let text = c.put_text-a.ensures in
    let number = c.put_number-b.ensures in
    let text2 = c.put_text-c.ensures in
    let number2 = c.put_number-d.ensures in
    omega (arith, parts c.requires, text.ends, text.only.long, number.ends, number.only.long, text2.ends, text2.only.long, number2.ends, number2.only.long)

pub returns : goal.returns
unfolding before_vertices before_faces after_counts bytes
returns c = let text = c.put_text-a.ensures in
    let number = c.put_number-b.ensures in
    let text2 = c.put_text-c.ensures in
    let number2 = c.put_number-d.ensures in
    header_put c.requires text number text2 number2 c.put_text.ensures
