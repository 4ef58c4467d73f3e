-- `searched_isolated::kept_corner` meets its contract: by whether the point was met. Assumes nothing.
use mathlib.Core.Path.{◌∙◌}
use native.Mathlib.Omega.{arith}
use Rattle.rule_laws.proofs.Digits.{decimal_short}
use Rattle.face_words.specs.Words.{view}
use Rattle.searched_splits.proofs.Reading.{corner_picked}
use Rattle.searched_isolated.proofs.Lines.{corner_met, corner_first}
use Rattle.searched_isolated.proofs.kept_corner.Goals as goal

-- src/lib.rt:37:9
pub returns-then-met_at : goal.returns-then-met_at
returns-then-met_at c = corner_met c.requires.corner_asks (c.corner-v.ensures ∙ corner_picked (view c.args.faces.now c.args.words.now c.args.f) c.args.k c.requires.corner_asks.corner) c.met_at.ensures c.if-met_at.true

-- src/lib.rt:39:5
pub overflow_add-result : goal.overflow_add-result
overflow_add-result c = omega (arith, c.number_length.ensures, decimal_short c.corner-v.result)

-- src/lib.rt:30:1
pub returns : goal.returns
returns c = corner_first c.requires.corner_asks (c.corner-v.ensures ∙ corner_picked (view c.args.faces.now c.args.words.now c.args.f) c.args.k c.requires.corner_asks.corner) c.met_at.ensures c.if-met_at.false c.number_length.ensures
