-- `drawing::draw` meets its contract: the verdict of the table. Assumes nothing.
use Rattle.std.proofs.lemmas.Result.{err_from_is_err_and}
use Rattle.drawing.proofs.Judging.{table_asks, judge_asks, is_ready, is_refused}
use Rattle.drawing.proofs.draw.Goals as goal

pub table-m-requires : goal.table-m-requires
table-m-requires c = table_asks c.requires

pub judge-requires : goal.judge-requires
judge-requires c = judge_asks c.requires c.table-m.ensures

pub returns-in_err-judge : goal.returns-in_err-judge
returns-in_err-judge c = let p = err_from_is_err_and c.from_residual.result c.from_residual.ensures.1 in
    rw (p.1, p.2) (is_refused c.requires c.table-m.ensures c.in_err-judge.ensures)

pub returns : goal.returns
returns c = is_ready c.requires c.table-m.ensures c.in_ok-judge.ensures
