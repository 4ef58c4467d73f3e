-- `resolve_try::collisions` meets what its calls ask: no more faces stay than stood. Assumes nothing.
use native.Mathlib.Omega.{arith}
use Rattle.leaving.proofs.ByFlags.{may_leave, left_by, left_fewer}
use Rattle.resolve_try.proofs.collisions.Goals as goal

pub leave-r-requires : goal.leave-r-requires
leave-r-requires g c = may_leave c.requires.pass_asks.stand.fit c.requires.n_in_bounds c.requires.pass_asks.stand.room c.mark-marked.ensures.fact

pub overflow_mul-r : goal.overflow_mul-r
overflow_mul-r g c =
    let left = left_by c.mark-marked.ensures.fact c.leave-r.ensures in
    omega (arith, left_fewer left, c.requires.pass_asks.stand.few)

pub row-requires : goal.row-requires
row-requires g c =
    let left = left_by c.mark-marked.ensures.fact c.leave-r.ensures in
    omega (arith, left_fewer left, left.only_faces.long, c.requires.pass_asks.stand.fit)

pub row-requires-2 : goal.row-requires-2
row-requires-2 g c =
    let left = left_by c.mark-marked.ensures.fact c.leave-r.ensures in
    omega (arith, left_fewer left, left.only_origins.long, c.requires.n_in_bounds)
