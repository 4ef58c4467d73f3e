-- `orient_consistently::settle` meets its contract: the states are cleared and the table made; nothing is at odds, or all components are walked and the
-- faces turned. Assumes nothing.
use Rattle.orient_consistently.proofs.Orienting.{orient_gives}
use Rattle.orient_consistently.proofs.Settling.{once_now, calm_gives, single_asks_after, once_turned}
use Rattle.orient_consistently.proofs.settle.Goals as goal

pub returns-then-single : goal.returns-then-single
returns-then-single c = let p = c.requires in
    let cl = c.clear.ensures in
    let t = c.table-m.ensures in
    let s = c.single.ensures in
    (record { orient_gives = calm_gives p cl.only t cl.filled (s c.if-single.true); once = λ e. once_now p cl.only t cl.filled (s c.if-single.true) })

pub single-single-requires : goal.single-single-requires
single-single-requires c = let p = c.requires in
    let cl = c.clear.ensures in
    let t = c.table-m.ensures in
    let y = c.lay.ensures in
    let g = c.walk_all-components.ensures in
    single_asks_after p cl.only t y g

pub returns : goal.returns
returns c = let p = c.requires in
    let cl = c.clear.ensures in
    let t = c.table-m.ensures in
    let y = c.lay.ensures in
    let g = c.walk_all-components.ensures in
    let s2 = c.single-single.ensures in
    let h = c.turn_all.ensures in
    (record { orient_gives = orient_gives p cl.only t y g h; once = λ e. once_turned p cl.only t y g h (s2 e) })
