-- `write_ply::put_triple` meets its contract: the count and three indices, one behind the other. Assumes nothing.
use Prim.Native.Nat.{◌+◌, ◌*◌}
use mathlib.Core.Path.{◌∙◌}
use native.Mathlib.Omega.{arith}
use lib.ListN.{length-set}
use Rattle.write_ply.specs.Written.{face_at}
use Rattle.write_ply.proofs.Putting.{triple_put, moved}
use Rattle.write_ply.proofs.put_triple.Goals as goal

pub overflow_cast-faces : goal.overflow_cast-faces
overflow_cast-faces c = omega (arith, c.shared_slice_known-2-1.given (3 * c.args.i))

pub put_little-b-requires : goal.put_little-b-requires
put_little-b-requires c = omega (arith, c.requires.room, length-set c.args.out.now c.args.at 3)

pub overflow_cast-faces-2 : goal.overflow_cast-faces-2
overflow_cast-faces-2 c = omega (arith, c.shared_slice_known-3-1.given (3 * c.args.i + 1))

pub put_little-c-requires : goal.put_little-c-requires
put_little-c-requires c = omega (arith, c.requires.room, length-set c.args.out.now c.args.at 3, moved _ c.put_little-b.ensures)

pub overflow_cast-faces-3 : goal.overflow_cast-faces-3
overflow_cast-faces-3 c = omega (arith, c.shared_slice_known-4-1.given (3 * c.args.i + 2))

pub put_little-requires : goal.put_little-requires
put_little-requires c = omega (arith, c.requires.room, length-set c.args.out.now c.args.at 3, moved _ c.put_little-b.ensures, moved _ c.put_little-c.ensures)

pub shape_of-out : goal.shape_of-out
shape_of-out c = c.put_little.ensures.only.long ∙ c.put_little-c.ensures.only.long ∙ c.put_little-b.ensures.only.long ∙ length-set c.args.out.now c.args.at 3

pub returns : goal.returns
returns c = triple_put (face_at c.args.faces.now c.args.i) (omega (arith, c.requires.room)) c.put_little-b.ensures c.put_little-c.ensures c.put_little.ensures
