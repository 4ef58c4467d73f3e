-- `root::near` meets its contract. The loop's invariant is `Kept` of `proofs/Floor.antt`. Assumes nothing.
use mathlib.Core.Path.{sym, ◌∙◌}
use native.Mathlib.Omega.{arith}
use borrow.Author.Tests.{lt-ltb, le-ltb}
use Rattle.root.proofs.Floor.{root_lt, kept_start, kept_one, kept_none, kept_end}
use Rattle.root.proofs.near.Goals as goal
use Rattle.root.proofs.near.Goals.{else-trial-next, then-trial-next}

-- it holds before the first turn
pub loop-i-init : goal.loop-i-init
loop-i-init c = kept_start c.args.n c.requires

-- four times the rest fits, as the rest is at most twice the root
pub overflow_mul-next : goal.overflow_mul-next
overflow_mul-next c = omega (arith, root_lt c.loop-i.invariant)

-- and so with a digit added
pub overflow_add-next : goal.overflow_add-next
overflow_add-next c = omega (arith, root_lt c.loop-i.invariant)

-- four times the root fits
pub overflow_mul-trial : goal.overflow_mul-trial
overflow_mul-trial c = omega (arith, root_lt c.loop-i.invariant)

-- and so with one added
pub overflow_add-trial : goal.overflow_add-trial
overflow_add-trial c = omega (arith, root_lt c.loop-i.invariant)

-- twice the root fits, where the digit is 1
pub overflow_mul-root : goal.overflow_mul-root
overflow_mul-root c = omega (arith, root_lt c.loop-i.invariant)

-- and so with one added
pub overflow_add-root : goal.overflow_add-root
overflow_add-root c = omega (arith, root_lt c.loop-i.invariant)

-- twice the root fits, where the digit is 0
pub overflow_mul-root-else-trial-next : goal.overflow_mul-root-else-trial-next
overflow_mul-root-else-trial-next c = omega (arith, root_lt c.loop-i.invariant)

-- a turn keeps the invariant, with the digit 1 and with 0
pub loop-i-preserved : goal.loop-i-preserved
loop-i-preserved c = let l = c.loop-i in
    let n = c.args.n in
    elim c.if-trial-next.branch [ then-trial-next w ↦ rw (w.root-is, w.rem-is) (kept_one n l.left l.root l.rem l.i l.invariant c.loop-i-test.true w.if-trial-next.true) | else-trial-next w ↦ rw (w.root-is, w.rem-is) (kept_none n l.left l.root l.rem l.i l.invariant c.loop-i-test.true w.if-trial-next.false) ]

-- the root and one fit
pub overflow_add-result : goal.overflow_add-result
overflow_add-result c = omega (arith, root_lt c.loop-i.invariant)

-- where the rest is above the root, the next number is nearer
pub returns-then-root-rem : goal.returns-then-root-rem
returns-then-root-rem c = sym (kept_end c.args.n _ c.loop-i.root c.loop-i.rem _ c.requires c.loop-i.invariant c.loop-i-test.false ∙ simp (lt-ltb _ _ c.if-root-rem.true))

-- otherwise the root is
pub returns-else-root-rem : goal.returns-else-root-rem
returns-else-root-rem c = sym (kept_end c.args.n _ c.loop-i.root c.loop-i.rem _ c.requires c.loop-i.invariant c.loop-i-test.false ∙ simp (le-ltb _ _ c.if-root-rem.false))
