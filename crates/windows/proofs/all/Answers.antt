-- `windows::all` meets its contract. The invariant: the vertices before v are passed, and the corners of those from v on are counted. Assumes nothing.
use Rattle.std.proofs.Common.{refl, ◌∙◌, arith}
use Rattle.windows.proofs.Advancing.{first_asks, begin, advance_asks, again, done}
use Rattle.windows.proofs.all.Goals as goal

pub clear-requires : goal.clear-requires
clear-requires c = omega (arith, c.min-width.ensures, c.min.ensures)

pub pass-requires : goal.pass-requires
pass-requires c = first_asks c.requires (omega (arith, c.min-width.ensures, c.min.ensures)) (omega (arith, c.min-width.ensures, c.min.ensures)) (omega (arith, c.min-width.ensures, c.min.ensures, c.clear.auto.work)) c.clear.ensures.filled

pub loop-v-init : goal.loop-v-init
loop-v-init c = begin c.requires (omega (arith, c.min-width.ensures, c.min.ensures)) (omega (arith, c.min-width.ensures, c.min.ensures, c.pass.auto.ends)) (omega (arith, c.min-width.ensures, c.min.ensures, c.pass.auto.counts, c.clear.auto.work)) refl refl refl c.pass.ensures c.start-t.ensures

pub advance-requires : goal.advance-requires
advance-requires c = advance_asks c.requires c.loop-v.invariant c.loop-v-test.true

pub shape_of-ends-in_err-s : goal.shape_of-ends-in_err-s
shape_of-ends-in_err-s c = c.advance.auto.ends ∙ c.loop-v.invariant.ends_long ∙ c.pass.auto.ends

pub shape_of-buffer-in_err-s : goal.shape_of-buffer-in_err-s
shape_of-buffer-in_err-s c = c.advance.auto.buffer ∙ c.loop-v.invariant.b_long ∙ c.pass.auto.buffer

pub shape_of-counts-in_err-s : goal.shape_of-counts-in_err-s
shape_of-counts-in_err-s c = c.advance.auto.counts ∙ c.loop-v.invariant.counts_long ∙ c.pass.auto.counts ∙ c.clear.auto.work

pub shape_of-entries-in_err-s : goal.shape_of-entries-in_err-s
shape_of-entries-in_err-s c = c.advance.auto.entries ∙ c.loop-v.invariant.entries_long

pub loop-v-smaller : goal.loop-v-smaller
loop-v-smaller c = let h = c.loop-v-test.true in omega (arith, c.in_ok-s.ensures.above, c.in_ok-s.ensures.within)

pub loop-v-preserved : goal.loop-v-preserved
loop-v-preserved c = again c.requires c.loop-v.invariant c.in_ok-s.ensures c.advance.auto.ends c.advance.auto.buffer c.advance.auto.counts c.advance.auto.entries

pub shape_of-ends : goal.shape_of-ends
shape_of-ends c = c.loop-v.invariant.ends_long ∙ c.pass.auto.ends

pub shape_of-buffer : goal.shape_of-buffer
shape_of-buffer c = c.loop-v.invariant.b_long ∙ c.pass.auto.buffer

pub shape_of-counts : goal.shape_of-counts
shape_of-counts c = c.loop-v.invariant.counts_long ∙ c.pass.auto.counts ∙ c.clear.auto.work

pub shape_of-entries : goal.shape_of-entries
shape_of-entries c = c.loop-v.invariant.entries_long

pub returns : goal.returns
returns c = done c.requires c.loop-v.invariant c.loop-v-test.false
