-- `halves::walk` meets its contract, which calls itself on both halves of a range of keys. Assumes nothing.
use mathlib.Core.Path.{◌∙◌}
use native.Mathlib.Omega.{arith}
use Rattle.std.proofs.lemmas.Result.{err_from_is_err_and}
use Rattle.halves.proofs.Walking.{empty, low_high, high_in, visit_asks, leaf, mid_above, mid_within, left_falls, right_falls, left_asks, stopped, right_asks, both}
use Rattle.halves.proofs.+walk.Goals as goal

pub returns-then-n-eq0 : goal.returns-then-n-eq0
returns-then-n-eq0 t c = empty c.requires c.if-n-eq0.true

pub span-sp-requires : goal.span-sp-requires
span-sp-requires t c = let n = c.if-n-eq0.false in let p = c.requires.fit in (p, omega arith)

pub evens-b-requires : goal.evens-b-requires
evens-b-requires t c = c.requires.fit

pub visit-requires : goal.visit-requires
visit-requires t c = visit_asks c.requires c.if-n-eq0.false c.span-sp.ensures c.if-low-high.true c.evens-b.ensures (omega (arith, c.ranges.to))

pub returns-then-low-high : goal.returns-then-low-high
returns-then-low-high t c = leaf c.requires c.if-n-eq0.false c.span-sp.ensures c.if-low-high.true c.evens-b.ensures c.visit.ensures

pub overflow_sub-mid : goal.overflow_sub-mid
overflow_sub-mid t c = low_high c.requires c.if-n-eq0.false c.span-sp.ensures

pub overflow_add-mid : goal.overflow_add-mid
overflow_add-mid t c = omega (arith, c.ranges.to, high_in c.requires c.if-n-eq0.false c.span-sp.ensures, mid_within c.requires c.if-n-eq0.false c.span-sp.ensures c.if-low-high.false)

pub overflow_add-mid-2 : goal.overflow_add-mid-2
overflow_add-mid-2 t c = omega (arith, c.ranges.to, high_in c.requires c.if-n-eq0.false c.span-sp.ensures, mid_within c.requires c.if-n-eq0.false c.span-sp.ensures c.if-low-high.false)

pub split-m-requires : goal.split-m-requires
split-m-requires t c = c.requires.fit

pub walk-requires : goal.walk-requires
walk-requires t c = (omega (arith, left_falls c.requires c.if-n-eq0.false c.span-sp.ensures c.if-low-high.false), left_asks c.requires c.if-n-eq0.false c.span-sp.ensures (mid_above c.requires c.if-n-eq0.false c.span-sp.ensures) (mid_within c.requires c.if-n-eq0.false c.span-sp.ensures c.if-low-high.false) c.split-m.ensures)

pub returns-in_err-t1 : goal.returns-in_err-t1
returns-in_err-t1 t c = let p = err_from_is_err_and c.from_residual.result c.from_residual.ensures.1 in
    rw (p.1, p.2) (stopped c.requires c.if-n-eq0.false c.span-sp.ensures (mid_above c.requires c.if-n-eq0.false c.span-sp.ensures) (mid_within c.requires c.if-n-eq0.false c.span-sp.ensures c.if-low-high.false) c.split-m.ensures c.in_err-t1.ensures)

pub overflow_add-s : goal.overflow_add-s
overflow_add-s t c = omega (arith, c.split-m.ensures.fewer, c.requires.fit)

pub overflow_sub-n : goal.overflow_sub-n
overflow_sub-n t c = c.split-m.ensures.fewer

pub walk-requires-2 : goal.walk-requires-2
walk-requires-2 t c = (omega (arith, right_falls c.requires c.if-n-eq0.false c.span-sp.ensures c.if-low-high.false), right_asks c.requires c.if-n-eq0.false c.span-sp.ensures (mid_above c.requires c.if-n-eq0.false c.span-sp.ensures) (mid_within c.requires c.if-n-eq0.false c.span-sp.ensures c.if-low-high.false) c.split-m.ensures c.in_ok-t1.ensures)

pub shape_of-buffer : goal.shape_of-buffer
shape_of-buffer t c = c.walk-2.auto.buffer ∙ c.walk.auto.buffer ∙ c.split-m.auto.buffer

pub returns : goal.returns
returns t c = both c.requires c.if-n-eq0.false c.span-sp.ensures (mid_above c.requires c.if-n-eq0.false c.span-sp.ensures) (mid_within c.requires c.if-n-eq0.false c.span-sp.ensures c.if-low-high.false) c.split-m.ensures c.in_ok-t1.ensures c.walk-2.ensures
