-- `refuse::far` meets its contract. Assumes nothing.
use Rattle.refuse.proofs.Scans.{near, far_x, far_y, far_z}
use mathlib.Core.Path.{sym, ◌∙◌}
use Rattle.refuse.proofs.far.Goals as goal

pub returns-then-in_domain-3 : goal.returns-then-in_domain-3
returns-then-in_domain-3 c = let y = c.before.before.before in
    let x = y.before.before.before in
    near _ _ x.requires (sym x.in_domain.ensures ∙ x.if-in_domain.true)
    (sym y.in_domain-then-in_domain.ensures ∙ y.if-in_domain-2.true) (sym c.in_domain-then-in_domain-2.ensures ∙ c.if-in_domain-3.true)

pub returns-then-in_domain-2 : goal.returns-then-in_domain-2
returns-then-in_domain-2 c = let y = c.before.before.before in
    let x = y.before.before.before in
    far_z _ _ x.requires (sym x.in_domain.ensures ∙ x.if-in_domain.true)
    (sym y.in_domain-then-in_domain.ensures ∙ y.if-in_domain-2.true) (sym c.in_domain-then-in_domain-2.ensures ∙ c.if-in_domain-3.false)

pub returns-then-in_domain : goal.returns-then-in_domain
returns-then-in_domain c = let x = c.before.before.before in
    far_y _ _ x.requires (sym x.in_domain.ensures ∙ x.if-in_domain.true)
    (sym c.in_domain-then-in_domain.ensures ∙ c.if-in_domain-2.false)

pub returns : goal.returns
returns c = far_x _ _ c.requires (sym c.in_domain.ensures ∙ c.if-in_domain.false)
