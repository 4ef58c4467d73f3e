-- `list_changes::corner_instead` meets its contract. Assumes nothing.
use mathlib.Core.Path.{refl}
use borrow.Author.Tests.{eq-eqb, ne_eqb}
use Rattle.list_changes.proofs.corner_instead.Goals as goal

pub returns-then-x-old : goal.returns-then-x-old
returns-then-x-old c = rw (eq-eqb c.args.x c.args.old c.if-x-old.true) refl

pub returns : goal.returns
returns c = rw (ne_eqb c.args.x c.args.old c.if-x-old.false) refl
