-- `windows::runs` meets its contract. The invariant: the runs before run j are taken in. Assumes nothing.
use Rattle.std.proofs.Common.{◌∙◌, arith}
use Rattle.std.proofs.lemmas.Result.{err_from_is_err_and}
use Rattle.windows.proofs.Running.{begin, first_bound, turn, widen_asks, walk_asks, stop, again, done}
use Rattle.windows.proofs.runs.Goals as goal

pub overflow_mul-from : goal.overflow_mul-from
overflow_mul-from c = omega (arith, first_bound c.requires)

pub loop-j-init : goal.loop-j-init
loop-j-init c = begin c.requires

pub offset_bounds-ends-j : goal.offset_bounds-ends-j
offset_bounds-ends-j c = omega (arith, turn c.requires c.loop-j.invariant c.loop-j-test.true)

pub bounds-ends-j : goal.bounds-ends-j
bounds-ends-j c = omega (arith, turn c.requires c.loop-j.invariant c.loop-j-test.true)

pub overflow_cast-e : goal.overflow_cast-e
overflow_cast-e c = omega (arith, c.shared_slice_known-in-loop-j-1.given c.loop-j.j)

pub overflow_add-to : goal.overflow_add-to
overflow_add-to c = omega (arith, turn c.requires c.loop-j.invariant c.loop-j-test.true)

pub overflow_sub-e : goal.overflow_sub-e
overflow_sub-e c = omega (arith, turn c.requires c.loop-j.invariant c.loop-j-test.true)

pub overflow_mul-from-in-loop-j : goal.overflow_mul-from-in-loop-j
overflow_mul-from-in-loop-j c = omega (arith, turn c.requires c.loop-j.invariant c.loop-j-test.true)

pub widen-requires : goal.widen-requires
widen-requires c = widen_asks c.requires c.loop-j.invariant c.loop-j-test.true

pub overflow_sub-e-in-loop-j : goal.overflow_sub-e-in-loop-j
overflow_sub-e-in-loop-j c = omega (arith, turn c.requires c.loop-j.invariant c.loop-j-test.true)

pub walk-requires : goal.walk-requires
walk-requires c = walk_asks c.requires c.loop-j.invariant c.loop-j-test.true c.widen.ensures c.widen.auto.to

pub shape_of-entries-in_err-r : goal.shape_of-entries-in_err-r
shape_of-entries-in_err-r c = c.walk.auto.buffer ∙ c.widen.auto.to ∙ c.loop-j.invariant.long

pub returns-in_err-r : goal.returns-in_err-r
returns-in_err-r c = let p = err_from_is_err_and c.from_residual.result c.from_residual.ensures.1 in
    rw (p.1, p.2) (stop c.requires c.loop-j.invariant c.loop-j-test.true c.widen.ensures c.widen.auto.to c.in_err-r.ensures)

pub loop-j-preserved : goal.loop-j-preserved
loop-j-preserved c = again c.requires c.loop-j.invariant c.loop-j-test.true c.widen.ensures c.widen.auto.to c.in_ok-r.ensures

pub shape_of-entries : goal.shape_of-entries
shape_of-entries c = c.loop-j.invariant.long

pub returns : goal.returns
returns c = done c.requires c.loop-j.invariant c.loop-j-test.false
