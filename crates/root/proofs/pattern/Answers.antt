-- `root::pattern` meets its contract. Assumes nothing.
use mathlib.Core.Path.{sym, ◌∙◌}
use Rattle.root.proofs.Units.{root_of_low, root_of_normal}
use Rattle.root.proofs.pattern.Goals as goal

-- the root of a pattern whose exponent is 0
pub returns-then-e-eq0 : goal.returns-then-e-eq0
returns-then-e-eq0 c = let s = c.before.before in
    (c.place.ensures.0 ∙ sym (root_of_low s.args.b s.requires.0 c.if-e-eq0.true), c.place.ensures.1)

-- and of one whose exponent is not
pub returns-else-e-eq0 : goal.returns-else-e-eq0
returns-else-e-eq0 c = let s = c.before.before in
    (c.place-else-e-eq0.ensures.0 ∙ sym (root_of_normal s.args.b s.requires.1 c.if-e-eq0.false), c.place-else-e-eq0.ensures.1)
