-- `boundary_loops::find_loops` meets its contract: the checks refuse, 7 or 8 does, or every room is written. Assumes nothing.
use Rattle.std.proofs.lemmas.Result.{err_from_is_err_and}
use Rattle.boundary_loops.specs.Answers.{rooms_of}
use Rattle.boundary_loops.proofs.Ending.{is_refused, draw_asks, is_judged, list_asks, is_done}
use Rattle.boundary_loops.proofs.find_loops.Goals as goal

pub returns-in_err-loops_refusal : goal.returns-in_err-loops_refusal
returns-in_err-loops_refusal c = let s = c.args in
    let r = rooms_of s.loop_vertices.now s.loop_ends.now s.work.now in
    let p = err_from_is_err_and c.from_residual.result c.from_residual.ensures.1 in
    rw (p.1, p.2) (is_refused s.points.now s.faces.now r _ c.in_err-loops_refusal.ensures)

pub prepare-requires : goal.prepare-requires
prepare-requires c = let s = c.args in
    let r = rooms_of s.loop_vertices.now s.loop_ends.now s.work.now in
    draw_asks s.points.now s.faces.now r c.in_ok-loops_refusal.ensures

pub returns-in_err-prepare : goal.returns-in_err-prepare
returns-in_err-prepare c = let s = c.args in
    let r = rooms_of s.loop_vertices.now s.loop_ends.now s.work.now in
    let p = err_from_is_err_and c.from_residual-in_err-prepare.result c.from_residual-in_err-prepare.ensures.1 in
    rw (p.1, p.2) (is_judged s.points.now s.faces.now r c.in_ok-loops_refusal.ensures _ c.in_err-prepare.ensures)

pub list-requires : goal.list-requires
list-requires c = let s = c.args in
    let r = rooms_of s.loop_vertices.now s.loop_ends.now s.work.now in
    list_asks s.points.now s.faces.now r c.in_ok-loops_refusal.ensures c.in_ok-prepare.ensures

pub returns : goal.returns
returns c = let s = c.args in
    let r = rooms_of s.loop_vertices.now s.loop_ends.now s.work.now in
    is_done s.points.now s.faces.now r c.in_ok-loops_refusal.ensures c.in_ok-prepare.ensures c.list.ensures
