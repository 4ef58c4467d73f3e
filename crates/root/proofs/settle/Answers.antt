-- `root::settle` meets its contract. What is left of it are facts of `proofs/Square.antt`. Assumes nothing.
use Prim.Native.Nat.{◌*◌, ◌/◌, ◌%◌, ◌^◌, ◌<◌}
use native.Mathlib.Omega.{arith}
use Rattle.root.proofs.Square.{cross, cross_lt, high_square_lt, low_square_lt, is_q, is_more, is_less}
use Rattle.root.proofs.settle.Goals as goal
use Rattle.root.proofs.settle.Goals.{Start}

-- the parts' bounds
small : (c : Start) → (cross c.args.q < 2 ^ 54) × (c.args.q / 67108864 * (c.args.q / 67108864) < 2 ^ 54) × (c.args.q % 67108864 * (c.args.q % 67108864) < 2 ^ 52)
small c = (cross_lt c.args.q c.requires.3, high_square_lt c.args.q c.requires.3, low_square_lt c.args.q)

-- and so times the lower half
pub overflow_mul-t-2 : goal.overflow_mul-t-2
overflow_mul-t-2 c = omega (arith, small c)

-- the square of the upper half fits
pub overflow_mul-high : goal.overflow_mul-high
overflow_mul-high c = omega (arith, small c)

-- and so with the carry
pub overflow_add-high : goal.overflow_add-high
overflow_add-high c = omega (arith, small c)

-- the square of the lower half fits
pub overflow_mul-low-2 : goal.overflow_mul-low-2
overflow_mul-low-2 c = omega (arith, small c)

-- and so does their sum
pub overflow_add-low : goal.overflow_add-low
overflow_add-low c = omega (arith, small c)

-- high + 8 fits
pub overflow_add-high-2 : goal.overflow_add-high-2
overflow_add-high-2 c = omega (arith, small c)

-- high + 8 fits
pub overflow_add-up : goal.overflow_add-up
overflow_add-up c = omega (arith, small c.before)

-- and so with the lower part
pub overflow_add-over : goal.overflow_add-over
overflow_add-over c = omega (arith, small c.before.before)

-- the guess is the root to the nearest
pub returns-then-over-q-ge-ZERO : goal.returns-then-over-q-ge-ZERO
returns-then-over-q-ge-ZERO c = let s = c.before.before.before.before in
    is_q s.args.n s.args.q s.requires.0 s.requires.1 c.if-high-n.false c.if-over-q.true c.if-over-q-ge-ZERO.true

-- the guess is one too small
pub returns-then-over-q-ge-ZERO-2 : goal.returns-then-over-q-ge-ZERO-2
returns-then-over-q-ge-ZERO-2 c = let s = c.before.before.before.before.before in
    is_more s.args.n s.args.q s.requires.0 s.requires.1 c.if-high-n.false c.if-over-q-ge-ZERO.false c.if-over-q-ge-ZERO-2.true

-- over + 2 fits
pub overflow_add-over-else-over-q : goal.overflow_add-over-else-over-q
overflow_add-over-else-over-q c = omega (arith, small c.before.before.before)

-- the guess is one too large
pub returns-then-over-q-2 : goal.returns-then-over-q-2
returns-then-over-q-2 c = let s = c.before.before.before.before in
    is_less s.args.n s.args.q s.requires.0 s.requires.1 c.if-high-n.false (omega (arith, s.requires.2)) c.if-over-q.false c.if-over-q-2.true
