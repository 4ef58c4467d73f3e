-- `searched_walk::meet` meets its contract: a face that is visited marks, another is pushed. Assumes nothing.
use native.Mathlib.Omega.{arith}
use mathlib.Core.Path.{refl}
use mathlib.Core.Bool.{cond}
use Rattle.searched_walk.proofs.Noting.{more_most}
use Rattle.searched_walk.proofs.Visiting.{view_ok, met_seen, bounds, met_new}
use Rattle.searched_walk.proofs.meet.Goals as goal

-- src/lib.rt:63:38
pub view-requires : goal.view-requires
view-requires c = view_ok c.requires

-- src/lib.rt:65:9
pub returns-then-seen : goal.returns-then-seen
returns-then-seen c = met_seen c.requires c.view.ensures c.args.a c.args.b c.walks-agrees.ensures c.seen.ensures c.if-seen.true c.remark.ensures

-- src/lib.rt:73:16
pub overflow_add-words : goal.overflow_add-words
overflow_add-words c = omega (arith, bounds c.requires c.view.ensures c.args.a c.args.b c.walks-agrees.ensures c.seen.ensures c.if-seen.false {turn = cond c.walks-agrees.result 0 2} refl)

-- src/lib.rt:73:16
pub overflow_add-words-2 : goal.overflow_add-words-2
overflow_add-words-2 c = omega (arith, bounds c.requires c.view.ensures c.args.a c.args.b c.walks-agrees.ensures c.seen.ensures c.if-seen.false c.turn.ensures)

-- src/lib.rt:73:16
pub overflow_add-words-3 : goal.overflow_add-words-3
overflow_add-words-3 c = omega (arith, bounds c.requires c.view.ensures c.args.a c.args.b c.walks-agrees.ensures c.seen.ensures c.if-seen.false c.turn.ensures)

-- src/lib.rt:76:15
pub overflow_add-result : goal.overflow_add-result
overflow_add-result c = omega (arith, bounds c.requires c.view.ensures c.args.a c.args.b c.walks-agrees.ensures c.seen.ensures c.if-seen.false c.turn.ensures)

-- src/lib.rt:77:20
pub overflow_add-result-2 : goal.overflow_add-result-2
overflow_add-result-2 c = omega (arith, bounds c.requires c.view.ensures c.args.a c.args.b c.walks-agrees.ensures c.seen.ensures c.if-seen.false c.turn.ensures, more_most c.walks-agrees.result c.one_more.ensures)

-- src/lib.rt:59:1
pub returns : goal.returns
returns c = met_new c.requires c.view.ensures c.args.a c.args.b c.walks-agrees.ensures c.seen.ensures c.if-seen.false c.turn.ensures c.one_more.ensures
