-- `resolve_directed_collisions::mark_edges` meets its contract: after r runs, what is lost at their directed edges is marked. Assumes nothing.
use mathlib.Core.Bool.{true}
use Rattle.rules.specs.Mesh.{faces_of}
use Rattle.rank.specs.Ranks.{value_of}
use Rattle.marking.proofs.Running.{Passed}
use Rattle.resolve_directed_collisions.specs.Collisions.{after_first}
use Rattle.resolve_directed_collisions.proofs.mark_edges.Given as goal

abbrev pub invariant-loop-r : goal.invariant-loop-r
invariant-loop-r l = Passed (after_first (value_of l.points l.faces) (faces_of l.faces)) true l.points l.faces l.initial.work l.marks l.m l.work l.r
