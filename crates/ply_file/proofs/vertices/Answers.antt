-- `ply_file::vertices` meets its contract: all vertices before i are without fault. Assumes nothing.
use mathlib.Core.Path.{sym, ◌∙◌}
use native.Mathlib.Omega.{arith}
use Rattle.refuse.proofs.Scans.{clean_begin, clean_more}
use Rattle.ply_file.proofs.Scanning.{turn_v, no4_none, no4_at}
use Rattle.ply_file.proofs.vertices.Goals as goal

pub loop-i-init : goal.loop-i-init
loop-i-init c = clean_begin _ _

pub overflow_mul-i : goal.overflow_mul-i
overflow_mul-i c = omega (arith, turn_v c.requires c.loop-i-test.true)

pub overflow_add-at : goal.overflow_add-at
overflow_add-at c = omega (arith, turn_v c.requires c.loop-i-test.true)

pub far-requires : goal.far-requires
far-requires c = omega (arith, turn_v c.requires c.loop-i-test.true)

pub returns-then-far : goal.returns-then-far
returns-then-far c = no4_at c.requires _ c.loop-i.invariant c.loop-i-test.true (sym c.far.ensures ∙ c.if-far.true)

pub loop-i-preserved : goal.loop-i-preserved
loop-i-preserved c = clean_more _ _ _ c.loop-i.invariant c.loop-i-test.true (sym c.far.ensures ∙ c.if-far.false)

pub returns : goal.returns
returns c = no4_none c.requires _ c.loop-i.invariant c.loop-i-test.false
