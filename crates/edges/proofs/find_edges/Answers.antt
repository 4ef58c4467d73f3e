-- `edges::find_edges` meets its contract: the checks refuse, 7 does, or every room is written. Assumes nothing.
use native.Mathlib.Omega.{arith}
use Rattle.std.proofs.lemmas.Result.{err_from_is_err_and}
use Rattle.edges.specs.Answers.{rooms_of}
use Rattle.edges.proofs.Writing.{sizes, few_edges}
use Rattle.edges.proofs.Ending.{is_refused, draw_asks, is_judged, list_asks, is_done}
use Rattle.edges.proofs.find_edges.Goals as goal

pub returns-in_err-edges_refusal : goal.returns-in_err-edges_refusal
returns-in_err-edges_refusal c = let s = c.args in
    let r = rooms_of s.edges.now s.lengths.now s.face_edges.now s.work.now in
    let p = err_from_is_err_and c.from_residual.result c.from_residual.ensures.1 in
    rw (p.1, p.2) (is_refused s.points.now s.faces.now r _ c.in_err-edges_refusal.ensures)

pub prepare-requires : goal.prepare-requires
prepare-requires c = let s = c.args in
    let r = rooms_of s.edges.now s.lengths.now s.face_edges.now s.work.now in
    draw_asks s.points.now s.faces.now r c.in_ok-edges_refusal.ensures

pub returns-in_err-m : goal.returns-in_err-m
returns-in_err-m c = let s = c.args in
    let r = rooms_of s.edges.now s.lengths.now s.face_edges.now s.work.now in
    let p = err_from_is_err_and c.from_residual-in_err-m.result c.from_residual-in_err-m.ensures.1 in
    rw (p.1, p.2) (is_judged s.points.now s.faces.now r c.in_ok-edges_refusal.ensures _ c.in_err-m.ensures)

pub list-requires : goal.list-requires
list-requires c = let s = c.args in
    let r = rooms_of s.edges.now s.lengths.now s.face_edges.now s.work.now in
    list_asks s.points.now s.faces.now r c.in_ok-edges_refusal.ensures c.in_ok-m.ensures

pub overflow_mul-result : goal.overflow_mul-result
overflow_mul-result c = let s = c.args in
    let r = rooms_of s.edges.now s.lengths.now s.face_edges.now s.work.now in
    let a = list_asks s.points.now s.faces.now r c.in_ok-edges_refusal.ensures c.in_ok-m.ensures in
    omega (arith, few_edges a, sizes a)

pub returns : goal.returns
returns c = let s = c.args in
    let r = rooms_of s.edges.now s.lengths.now s.face_edges.now s.work.now in
    is_done s.points.now s.faces.now r c.in_ok-edges_refusal.ensures c.in_ok-m.ensures c.list.ensures
