-- `write_ply::put_triples` meets its contract: the first i faces are put. Assumes nothing.
use native.Mathlib.Omega.{arith}
use Rattle.rules.specs.Ply.{triple}
use Rattle.write_ply.proofs.Putting.{begin, triple_asks, triple_again, triples_done}
use Rattle.write_ply.proofs.put_triples.Goals as goal

pub loop-i-init : goal.loop-i-init
loop-i-init c = begin triple 13 _ (omega (arith, c.requires.room))

pub put_triple-next-requires : goal.put_triple-next-requires
put_triple-next-requires c = triple_asks c.requires c.loop-i.invariant c.loop-i-test.true

pub loop-i-preserved : goal.loop-i-preserved
loop-i-preserved c = triple_again c.args.faces.now c.loop-i.invariant c.loop-i-test.true c.put_triple-next.ensures

pub shape_of-out : goal.shape_of-out
shape_of-out c = c.loop-i.invariant.puts.only.long

pub returns : goal.returns
returns c = triples_done c.args.faces.now c.loop-i.invariant c.loop-i-test.false
