-- `windows::pass` meets its contract. The invariant: of the first i corners those of the window are in their runs, and those after it are counted. Assumes nothing.
use Rattle.std.proofs.Common.{arith}
use Rattle.windows.proofs.Passing.{begin, bounds, elsewhere, counter_in, counter_small, counting, corner_asks, putting, done}
use Rattle.windows.proofs.pass.Goals as goal
use Rattle.windows.proofs.pass.Goals.{then-j-outer+then-j-inner, then-j-outer+else-j-inner, else-j-outer}

pub overflow_add-outer : goal.overflow_add-outer
overflow_add-outer c = let h = c.requires in omega (arith, h)

pub loop-i-init : goal.loop-i-init
loop-i-init c = begin c.requires

pub offset_bounds-faces-i : goal.offset_bounds-faces-i
offset_bounds-faces-i c = omega (arith, bounds c.requires c.loop-i.invariant c.loop-i-test.true)

pub bounds-faces-i : goal.bounds-faces-i
bounds-faces-i c = omega (arith, bounds c.requires c.loop-i.invariant c.loop-i-test.true)

pub overflow_cast-faces : goal.overflow_cast-faces
overflow_cast-faces c = omega (arith, bounds c.requires c.loop-i.invariant c.loop-i-test.true)

pub wrapping_sub_u64-j-requires : goal.wrapping_sub_u64-j-requires
wrapping_sub_u64-j-requires c = omega (arith, bounds c.requires c.loop-i.invariant c.loop-i-test.true)

pub put_corner-requires : goal.put_corner-requires
put_corner-requires c = corner_asks c.requires c.loop-i.invariant c.loop-i-test.true c.wrapping_sub_u64-j.ensures.value c.wrapping_sub_u64-j.type_inv c.if-j-outer.true c.if-j-inner.true

pub offset_bounds-counts-k : goal.offset_bounds-counts-k
offset_bounds-counts-k c = omega (arith, counter_in c.requires c.loop-i.invariant c.loop-i-test.true c.wrapping_sub_u64-j.ensures.value c.wrapping_sub_u64-j.type_inv c.if-j-outer.true c.if-j-inner.false, counter_small c.requires c.loop-i.invariant c.loop-i-test.true c.wrapping_sub_u64-j.ensures.value c.wrapping_sub_u64-j.type_inv c.if-j-outer.true c.if-j-inner.false)

pub bounds-counts-k : goal.bounds-counts-k
bounds-counts-k c = omega (arith, counter_in c.requires c.loop-i.invariant c.loop-i-test.true c.wrapping_sub_u64-j.ensures.value c.wrapping_sub_u64-j.type_inv c.if-j-outer.true c.if-j-inner.false, counter_small c.requires c.loop-i.invariant c.loop-i-test.true c.wrapping_sub_u64-j.ensures.value c.wrapping_sub_u64-j.type_inv c.if-j-outer.true c.if-j-inner.false)

pub overflow_add-counts : goal.overflow_add-counts
overflow_add-counts c = omega (arith, counter_in c.requires c.loop-i.invariant c.loop-i-test.true c.wrapping_sub_u64-j.ensures.value c.wrapping_sub_u64-j.type_inv c.if-j-outer.true c.if-j-inner.false, counter_small c.requires c.loop-i.invariant c.loop-i-test.true c.wrapping_sub_u64-j.ensures.value c.wrapping_sub_u64-j.type_inv c.if-j-outer.true c.if-j-inner.false)

pub bounds-counts-k-else-j-inner : goal.bounds-counts-k-else-j-inner
bounds-counts-k-else-j-inner c = omega (arith, counter_in c.requires c.loop-i.invariant c.loop-i-test.true c.wrapping_sub_u64-j.ensures.value c.wrapping_sub_u64-j.type_inv c.if-j-outer.true c.if-j-inner.false, counter_small c.requires c.loop-i.invariant c.loop-i-test.true c.wrapping_sub_u64-j.ensures.value c.wrapping_sub_u64-j.type_inv c.if-j-outer.true c.if-j-inner.false)

pub loop-i-preserved : goal.loop-i-preserved
loop-i-preserved c = let p = c.requires in
    let q = c.loop-i.invariant in
    let h = c.loop-i-test.true in
    let x = c.wrapping_sub_u64-j.ensures.value in
    let y = c.wrapping_sub_u64-j.type_inv in
    elim c.if-j-outer.branch [
      | then-j-outer+then-j-inner w ↦ rw (w.ends-is, w.buffer-is, w.counts-is) (putting p q h x y w.if-j-outer.true w.if-j-inner.true w.put_corner.ensures)
      | then-j-outer+else-j-inner w ↦ rw (w.ends-is, w.buffer-is, w.counts-is) (counting p q h x y w.if-j-outer.true w.if-j-inner.false)
      | else-j-outer w ↦ rw (w.ends-is, w.buffer-is, w.counts-is) (elsewhere p q h x y w.if-j-outer.false)
    ]

pub shape_of-ends : goal.shape_of-ends
shape_of-ends c = c.loop-i.invariant.ends_long

pub shape_of-buffer : goal.shape_of-buffer
shape_of-buffer c = c.loop-i.invariant.b_long

pub shape_of-counts : goal.shape_of-counts
shape_of-counts c = c.loop-i.invariant.counts_long

pub returns : goal.returns
returns c = done c.requires c.loop-i.invariant c.loop-i-test.false
