-- `resolve_nonmanifold_edges::mark_edges` meets its contract: after r runs, what is lost at their edges is marked, and the crowded ones are counted.
-- Assumes nothing.
use native.Mathlib.Omega.{arith}
use Rattle.marking.proofs.Reading.{bounds}
use Rattle.marking.proofs.Running.{clear_ok, begin, run_ok}
use Rattle.resolve_nonmanifold_edges.proofs.Crowding.{none_counted, again, at_most_one, done}
use Rattle.resolve_nonmanifold_edges.proofs.mark_edges.Goals as goal

pub table-m-requires : goal.table-m-requires
table-m-requires c = c.requires.table

pub clear-requires : goal.clear-requires
clear-requires c = let at_table = c.before.before.before in
    clear_ok at_table.requires at_table.table-m.ensures

pub loop-r-init : goal.loop-r-init
loop-r-init c = let at_clear = c.before.before in
    let at_table = at_clear.before.before.before.before in
    none_counted (begin _ at_table.requires at_table.table-m.ensures at_clear.clear.ensures.only at_clear.clear.ensures.filled)

pub resolve_edge-requires : goal.resolve_edge-requires
resolve_edge-requires c = run_ok c.loop-r.invariant.passed c.loop-r-test.true

pub overflow_add-c : goal.overflow_add-c
overflow_add-c c = let at_Edge = c.before.before in
    let turn = at_Edge.before.before in
    let v = turn.loop-r.invariant in
    omega (arith, v.fewer, bounds (run_ok v.passed turn.loop-r-test.true), at_most_one c.resolve_edge.result, c.from-c.ensures)

pub loop-r-preserved : goal.loop-r-preserved
loop-r-preserved c = let at_Edge = c.before.before in
    let turn = at_Edge.before.before in
    again turn.loop-r.invariant turn.loop-r-test.true at_Edge.resolve_edge.ensures c.from-c.ensures

pub shape_of-work : goal.shape_of-work
shape_of-work c = let at_clear = c.before.before.before.before in
    let at_table = at_clear.before.before.before.before in
    (done c.loop-r.invariant at_table.requires at_table.table-m.ensures at_clear.clear.ensures.only c.loop-r-test.false).marked.only.long

pub returns : goal.returns
returns c = let at_clear = c.before.before.before.before in
    let at_table = at_clear.before.before.before.before in
    done c.loop-r.invariant at_table.requires at_table.table-m.ensures at_clear.clear.ensures.only c.loop-r-test.false
