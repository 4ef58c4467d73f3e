-- `entry_search::kept` meets its contract: the first choice, or the second. Assumes nothing.
use mathlib.Core.Path.{◌∙◌}
use borrow.Author.Tests.{eq-eqb}
use Rattle.entry_search.proofs.Keeping.{first_some, second_ok, kept_first, kept_second}
use Rattle.entry_search.proofs.kept.Goals as goal

pub best_entry-requires : goal.best_entry-requires
best_entry-requires c = (record { best_asks = c.requires.kept_asks.asks; indexed = c.requires.indexed })

pub unwrap-first-requires : goal.unwrap-first-requires
unwrap-first-requires c = first_some c.requires.kept_asks c.best_entry.ensures

pub returns-then-f-first : goal.returns-then-f-first
returns-then-f-first c = eq-eqb c.args.f c.unwrap-first.result c.if-f-first.true ∙ kept_first c.requires.kept_asks c.best_entry.ensures c.unwrap-first.ensures c.args.f c.if-f-first.true

pub second-requires : goal.second-requires
second-requires c = (record { second_asks = second_ok c.requires.kept_asks c.best_entry.ensures c.unwrap-first.ensures; indexed = c.requires.indexed })

pub returns-else-f-first : goal.returns-else-f-first
returns-else-f-first c = kept_second c.requires.kept_asks c.best_entry.ensures c.unwrap-first.ensures c.args.f c.if-f-first.false c.second.ensures
