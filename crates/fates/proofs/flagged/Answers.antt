-- `fates::flagged` meets its contract: by the test. Assumes nothing.
use mathlib.Core.Path.{refl}
use borrow.Author.Tests.{eq-eqb, ne_eqb}
use Rattle.fates.proofs.flagged.Goals as goal

pub returns-then-flag-eq1 : goal.returns-then-flag-eq1
returns-then-flag-eq1 c = rw (eq-eqb c.args.flag 1 c.if-flag-eq1.true) refl

pub returns : goal.returns
returns c = rw (ne_eqb c.args.flag 1 c.if-flag-eq1.false) refl
