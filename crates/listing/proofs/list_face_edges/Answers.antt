-- `listing::list_face_edges` meets its contract: the edges of the first i faces stand at the front. Assumes nothing.
use native.Mathlib.Omega.{arith}
use Rattle.listing.proofs.Sides.{begin, again, done}
use Rattle.listing.proofs.list_face_edges.Goals as goal

pub overflow_mul-runs : goal.overflow_mul-runs
overflow_mul-runs c = omega (arith, c.requires.tabled.asks)

pub overflow_add-runs : goal.overflow_add-runs
overflow_add-runs c = omega (arith, c.requires.tabled.asks)

pub loop-i-init : goal.loop-i-init
loop-i-init c = begin c.requires

pub loop-i-preserved : goal.loop-i-preserved
loop-i-preserved c = again c.requires c.loop-i.invariant c.loop-i-test.true

pub shape_of-face_edges : goal.shape_of-face_edges
shape_of-face_edges c = c.loop-i.invariant.only.long

pub returns : goal.returns
returns c = λ q. done q c.loop-i.invariant c.loop-i-test.false
