-- `searched_splits::has_point` meets its contract, test after test. Assumes nothing.
use mathlib.Core.Path.{sym, ap, ◌∙◌}
use Rattle.rules.specs.Lists.{has}
use Rattle.rules.specs.Mesh.{corners}
use Rattle.searched_splits.proofs.Reading.{gone_has, stands_has}
use Rattle.searched_splits.proofs.has_point.Goals as goal

pub returns-then-not-stands : goal.returns-then-not-stands
returns-then-not-stands c = gone_has c.args.faces.now c.args.words.now c.args.v c.args.g (sym c.stands.ensures ∙ c.if-not-stands.true)

pub returns : goal.returns
returns c =
    stands_has c.args.faces.now c.args.words.now c.args.v c.args.g (sym c.stands.ensures ∙ c.if-not-stands.false)
    (c.among.ensures ∙ ap (λ f. has c.args.v (corners f)) c.view-c.ensures)
