-- `ply_file::corners` meets its contract: all faces before i are without fault. Assumes nothing.
use mathlib.Core.Path.{sym, ◌∙◌}
use native.Mathlib.Omega.{arith}
use Rattle.refuse.proofs.Scans.{clean_begin, clean_more}
use Rattle.ply_file.proofs.Scanning.{turn_f, no5_none, no5_at}
use Rattle.ply_file.proofs.corners.Goals as goal

pub loop-i-init : goal.loop-i-init
loop-i-init c = clean_begin _ _

pub overflow_mul-i : goal.overflow_mul-i
overflow_mul-i c = omega (arith, turn_f c.requires c.loop-i-test.true)

pub overflow_add-at : goal.overflow_add-at
overflow_add-at c = omega (arith, turn_f c.requires c.loop-i-test.true)

pub astray-requires : goal.astray-requires
astray-requires c = omega (arith, turn_f c.requires c.loop-i-test.true)

pub returns-then-astray : goal.returns-then-astray
returns-then-astray c = no5_at _ c.requires _ c.loop-i.invariant c.loop-i-test.true (sym c.astray.ensures ∙ c.if-astray.true)

pub loop-i-preserved : goal.loop-i-preserved
loop-i-preserved c = clean_more _ _ _ c.loop-i.invariant c.loop-i-test.true (sym c.astray.ensures ∙ c.if-astray.false)

pub returns : goal.returns
returns c = no5_none _ c.requires _ c.loop-i.invariant c.loop-i-test.false
