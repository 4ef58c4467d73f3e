-- `ply_file::fills` meets its contract: by the tests before it. Assumes nothing.
use Rattle.ply_file.proofs.Heading.{many_vertices, many_faces, fills_is}
use Rattle.ply_file.proofs.fills.Goals as goal

pub returns-then-body-p : goal.returns-then-body-p
returns-then-body-p c = many_vertices _ _ _ c.if-body-p.true

pub returns-then-left-f : goal.returns-then-left-f
returns-then-left-f c = many_faces _ _ _ c.if-body-p.false c.if-left-f.true

pub returns : goal.returns
returns c = fills_is _ _ _ c.if-body-p.false c.if-left-f.false
