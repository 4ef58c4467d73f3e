-- `resolve_directed_collisions::mark_edges` meets its contract: after r runs, what is lost at their directed edges is marked. Assumes nothing.
use Rattle.marking.proofs.Running.{clear_ok, begin, run_ok, again, done}
use Rattle.resolve_directed_collisions.proofs.Colliding.{lost_marked}
use Rattle.resolve_directed_collisions.proofs.mark_edges.Goals as goal

pub table-m-requires : goal.table-m-requires
table-m-requires c = c.requires.table

pub clear-requires : goal.clear-requires
clear-requires c = clear_ok c.requires c.table-m.ensures

pub loop-r-init : goal.loop-r-init
loop-r-init c = begin _ c.requires c.table-m.ensures c.clear.ensures.only c.clear.ensures.filled

pub resolve_edge-requires : goal.resolve_edge-requires
resolve_edge-requires c = run_ok c.loop-r.invariant c.loop-r-test.true

pub loop-r-preserved : goal.loop-r-preserved
loop-r-preserved c = again c.loop-r.invariant c.loop-r-test.true c.resolve_edge.ensures

pub shape_of-work : goal.shape_of-work
shape_of-work c = (done _ c.requires c.table-m.ensures c.clear.ensures.only _ (lost_marked c.args.points.now c.args.faces.now) c.loop-r.invariant c.loop-r-test.false).only.long

pub returns : goal.returns
returns c = done _ c.requires c.table-m.ensures c.clear.ensures.only _ (lost_marked c.args.points.now c.args.faces.now) c.loop-r.invariant c.loop-r-test.false
