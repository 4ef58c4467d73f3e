-- `ply_file::triples` meets its contract: all faces before i have the count 3. Assumes nothing.
use native.Mathlib.Omega.{arith}
use Rattle.refuse.proofs.Scans.{clean_begin, clean_more}
use Rattle.ply_file.proofs.Scanning.{is_three, is_other, turn_f, no14_none, no14_at}
use Rattle.ply_file.proofs.triples.Goals as goal

pub loop-i-init : goal.loop-i-init
loop-i-init c = clean_begin _ _

pub overflow_mul-i : goal.overflow_mul-i
overflow_mul-i c = omega (arith, turn_f c.requires c.loop-i-test.true)

pub overflow_add-at : goal.overflow_add-at
overflow_add-at c = omega (arith, turn_f c.requires c.loop-i-test.true)

pub bounds-file-at : goal.bounds-file-at
bounds-file-at c = omega (arith, turn_f c.requires c.loop-i-test.true)

pub returns-then-file-at-ne3 : goal.returns-then-file-at-ne3
returns-then-file-at-ne3 c = no14_at c.requires _ c.loop-i.invariant c.loop-i-test.true (is_other _ c.if-file-at-ne3.true)

pub loop-i-preserved : goal.loop-i-preserved
loop-i-preserved c = clean_more _ _ _ c.loop-i.invariant c.loop-i-test.true (is_three _ c.if-file-at-ne3.false)

pub returns : goal.returns
returns c = no14_none c.requires _ c.loop-i.invariant c.loop-i-test.false
