-- `fates::turned` meets its contract: by the test. Assumes nothing.
use mathlib.Core.Path.{refl}
use borrow.Author.Tests.{eq-eqb, ne_eqb}
use Rattle.fates.proofs.turned.Goals as goal

pub returns-then-b-was : goal.returns-then-b-was
returns-then-b-was c = rw (eq-eqb c.args.b c.args.was c.if-b-was.true) refl

pub returns : goal.returns
returns c = rw (ne_eqb c.args.b c.args.was c.if-b-was.false) refl
