-- `text_out::put_hex` meets its contract: the last k digits are put. Assumes nothing.
use mathlib.Core.Path.{◌≡◌, subst}
use Prim.Native.Nat.{ℕ, ◌+◌, ◌-◌, ◌/◌}
use lib.ListN.{set}
use native.Mathlib.Omega.{arith}
use Rattle.text_out.proofs.Putting.{Left, begin, again, done}
use Rattle.text_out.proofs.put_hex.Goals as goal

pub loop-k-init : goal.loop-k-init
loop-k-init c = begin c.requires

pub overflow_add-out : goal.overflow_add-out
overflow_add-out c = omega (arith, c.requires)

pub bounds-out-at : goal.bounds-out-at
bounds-out-at c = let l = c.loop-k.invariant.only.long in omega (arith, c.requires)

pub loop-k-preserved : goal.loop-k-preserved
loop-k-preserved c =
    let k = c.loop-k.k in
    let e : 15 - k ≡ 16 - (k + 1) = omega arith in
    subst (λ (i : ℕ). Left c.args.out.now c.args.at c.args.n (set c.loop-k.out (c.args.at + (15 - k)) c.hex_byte.result) i (c.loop-k.m / 16)) e
    (again c.requires c.loop-k.invariant (15 - k) (omega (arith, c.loop-k-test.true)) _ c.hex_byte.ensures)

pub overflow_add-result : goal.overflow_add-result
overflow_add-result c = omega (arith, c.requires)

pub shape_of-out : goal.shape_of-out
shape_of-out c = c.loop-k.invariant.only.long

pub returns : goal.returns
returns c = done c.requires c.loop-k.invariant (omega (arith, c.loop-k-test.false))
