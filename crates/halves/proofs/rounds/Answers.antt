-- `halves::rounds` meets its contract. The invariant: the keys below `low` are passed, and no edge there is crowded. Assumes nothing.
use mathlib.Core.Path.{◌∙◌}
use native.Mathlib.Omega.{arith}
use Rattle.std.proofs.lemmas.Result.{err_from_is_err_and}
use Rattle.halves.proofs.Ranges.{begin, done, gather_asks, full, walk_asks, crowd, again}
use Rattle.halves.proofs.rounds.Goals as goal

pub loop-low-init : goal.loop-low-init
loop-low-init c = begin c.requires

pub gather-g-requires : goal.gather-g-requires
gather-g-requires c = gather_asks c.requires c.loop-low.invariant c.loop-low-test.true

pub shape_of-buffer-then-n-size : goal.shape_of-buffer-then-n-size
shape_of-buffer-then-n-size c = c.gather-g.ensures.holding.long ∙ c.loop-low.invariant.long

pub returns-then-n-size : goal.returns-then-n-size
returns-then-n-size c = full c.requires c.loop-low.invariant c.loop-low-test.true c.gather-g.ensures c.if-n-size.true

pub walk-requires : goal.walk-requires
walk-requires c = walk_asks c.requires c.loop-low.invariant c.loop-low-test.true c.gather-g.ensures c.if-n-size.false

pub shape_of-buffer-in_err-s : goal.shape_of-buffer-in_err-s
shape_of-buffer-in_err-s c = c.in_err-s.ensures.only.long ∙ c.gather-g.ensures.holding.long ∙ c.loop-low.invariant.long

pub returns-in_err-s : goal.returns-in_err-s
returns-in_err-s c = let p = err_from_is_err_and c.from_residual.result c.from_residual.ensures.1 in
    rw (p.1, p.2) (crowd c.requires c.loop-low.invariant c.loop-low-test.true c.gather-g.ensures c.if-n-size.false c.in_err-s.ensures)

pub loop-low-smaller : goal.loop-low-smaller
loop-low-smaller c = let h = c.gather-g.ensures.holding in let x = h.above in let y = h.within in let z = c.loop-low-test.true in omega arith

pub loop-low-preserved : goal.loop-low-preserved
loop-low-preserved c = again c.requires c.loop-low.invariant c.loop-low-test.true c.gather-g.ensures c.if-n-size.false c.in_ok-s.ensures

pub shape_of-buffer : goal.shape_of-buffer
shape_of-buffer c = c.loop-low.invariant.long

pub returns : goal.returns
returns c = done c.requires c.loop-low.invariant c.loop-low-test.false
