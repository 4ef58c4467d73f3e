-- `verdict_try::both` is safe and ends: the table and the rows are within the stated work room. Assumes nothing.
use native.Mathlib.Omega.{arith}
use lib.ListN.{length-take, length-drop}
use Rattle.boundary.proofs.Calling.{table_asks, boundary_asks}
use Rattle.verdict_try.proofs.both.Goals as goal

pub table-m-requires : goal.table-m-requires
table-m-requires g c = let p = c.requires in table_asks p.input p.room_work

pub boundary-requires : goal.boundary-requires
boundary-requires g c = let p = c.requires in boundary_asks p.input p.room_work c.table-m.ensures

pub slice_bounds-row-count : goal.slice_bounds-row-count
slice_bounds-row-count g c = let p = c.requires in
    let asks = boundary_asks p.input p.room_work c.table-m.ensures in
    omega (arith, asks.fit, c.boundary.ensures.only.long)

pub slice_bounds-row-start : goal.slice_bounds-row-start
slice_bounds-row-start g c = let p = c.requires in
    let asks = boundary_asks p.input p.room_work c.table-m.ensures in
    omega (arith, asks.fit, c.boundary.ensures.only.long)

pub row-requires : goal.row-requires
row-requires g c = let p = c.requires in
    let asks = boundary_asks p.input p.room_work c.table-m.ensures in
    simp (length-take, length-drop) (omega (arith, asks.fit, c.boundary.ensures.only.long))
