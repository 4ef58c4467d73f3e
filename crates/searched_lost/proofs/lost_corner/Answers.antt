-- `searched_lost::lost_corner` meets its contract: by its mark, its face and its rank. Assumes nothing.
use mathlib.Core.Path.{sym, ◌∙◌}
use Prim.Native.Nat.{◌+◌}
use native.Mathlib.Omega.{arith}
use Rattle.rule_laws.proofs.Digits.{decimal_short}
use Rattle.face_words.specs.Words.{view}
use Rattle.searched_splits.proofs.Reading.{corner_picked}
use Rattle.searched_lost.proofs.Losing.{unmarked_none, several_none, given_none, rank_few, lost_line_is, tested}
use Rattle.searched_lost.proofs.lost_corner.Goals as goal

pub returns-then-not-marked : goal.returns-then-not-marked
returns-then-not-marked c = λ q. unmarked_none q c.marked.ensures c.if-not-marked.true

pub returns-then-not-same : goal.returns-then-not-same
returns-then-not-same c = λ q. several_none q (tested c.same.ensures c.view-c.ensures c.if-not-same.true)

pub returns-then-gives : goal.returns-then-gives
returns-then-gives c = λ q. given_none q c.marked.ensures c.if-not-marked.false (sym c.gives.ensures ∙ c.if-gives.true)

pub overflow_add-points : goal.overflow_add-points
overflow_add-points c = omega (arith, rank_few c.requires c.marked.ensures c.if-not-marked.false (c.corner-v.ensures ∙ corner_picked (view c.args.faces.now c.args.words.now c.args.f) c.args.k c.requires.corner) c.rank-rank.ensures, c.requires.face.all.split.points)

pub overflow_cast-points : goal.overflow_cast-points
overflow_cast-points c = omega (arith, rank_few c.requires c.marked.ensures c.if-not-marked.false (c.corner-v.ensures ∙ corner_picked (view c.args.faces.now c.args.words.now c.args.f) c.args.k c.requires.corner) c.rank-rank.ensures, c.requires.face.all.split.points)

pub overflow_add-result : goal.overflow_add-result
overflow_add-result c = omega (arith, c.number_length.ensures, decimal_short (c.args.points + c.rank-rank.result))

pub returns : goal.returns
returns c = λ q. lost_line_is q c.marked.ensures c.if-not-marked.false (c.corner-v.ensures ∙ corner_picked (view c.args.faces.now c.args.words.now c.args.f) c.args.k c.requires.corner) c.rank-rank.ensures (tested c.same.ensures c.view-c.ensures c.if-not-same.false) (sym c.gives.ensures ∙ c.if-gives.false) c.number_length.ensures
