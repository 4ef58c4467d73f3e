-- `drop_isolated_vertices::clear_used` meets its contract: a corner that is passed has its flag cleared. Assumes nothing.
use Prim.Native.Nat.{◌*◌, ◌<◌}
use native.Mathlib.Omega.{arith}
use lib.Seq.{get_or-take, length-take-le}
use Rattle.drop_isolated_vertices.proofs.Using.{begin, again, done}
use Rattle.drop_isolated_vertices.proofs.clear_used.Goals as goal

pub loop-corner-init : goal.loop-corner-init
loop-corner-init c = begin c.requires

pub loop-corner-preserved : goal.loop-corner-preserved
loop-corner-preserved c = let h : c.loop-corner.corner-index < 3 * c.args.n = omega (arith, c.loop-corner-test.true, length-take-le (3 * c.args.n) c.args.faces.now c.requires.fit) in
    rw (get_or-take (3 * c.args.n) c.args.faces.now c.loop-corner.corner-index 0 h) (again c.requires c.loop-corner.invariant h)

pub returns : goal.returns
returns c = done c.requires c.loop-corner.invariant (omega (arith, c.loop-corner-test.false, length-take-le (3 * c.args.n) c.args.faces.now c.requires.fit))
