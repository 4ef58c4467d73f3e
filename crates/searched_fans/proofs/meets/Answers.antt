-- `searched_fans::meets` meets its contract, test after test. Assumes nothing.
use mathlib.Core.Path.{sym, ap, ◌∙◌}
use Rattle.rules.specs.Lists.{has}
use Rattle.rules.specs.Mesh.{corners}
use Rattle.searched_fans.proofs.Meeting.{was_met, is_gone, has_not, has_both}
use Rattle.searched_fans.proofs.meets.Goals as goal

-- src/lib.rt:44:9
pub returns-then-words-g-ne0 : goal.returns-then-words-g-ne0
returns-then-words-g-ne0 c = was_met c.args.faces.now c.args.words.now c.args.v c.args.x c.args.g c.if-words-g-ne0.true

-- src/lib.rt:47:9
pub returns-then-not-stands : goal.returns-then-not-stands
returns-then-not-stands c = is_gone c.args.faces.now c.args.words.now c.args.v c.args.x c.args.g
    (sym c.stands.ensures ∙ c.if-not-stands.true)

-- src/lib.rt:51:9
pub returns-then-among : goal.returns-then-among
returns-then-among c = let xs = c.args.faces.now in
    let w = c.args.words.now in
    c.among-then-among.ensures
    ∙ ap (λ f. has c.args.x (corners f)) c.view-c.ensures
    ∙ has_both xs w c.args.v c.args.x c.args.g c.if-words-g-ne0.false (sym c.stands.ensures ∙ c.if-not-stands.false)
    (sym (c.among.ensures ∙ ap (λ f. has c.args.v (corners f)) c.view-c.ensures) ∙ c.if-among.true)

-- src/lib.rt:39:1
pub returns-else-among : goal.returns-else-among
returns-else-among c = c.if-among.false ∙ has_not c.args.faces.now c.args.words.now c.args.v c.args.x c.args.g
    (sym (c.among.ensures ∙ ap (λ f. has c.args.v (corners f)) c.view-c.ensures) ∙ c.if-among.false)
