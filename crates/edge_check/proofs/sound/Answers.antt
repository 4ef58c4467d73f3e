-- `edge_check::sound` meets its contract: a repeated corner decides, or the number of directed edges, or the groups. Assumes nothing.
use mathlib.Core.Path.{ap}
use mathlib.Core.Bool.{not}
use mathlib.Core.Path.{sym, ◌∙◌}
use native.Mathlib.Omega.{arith}
use Rattle.edge_check.proofs.Tabling.{table_asks, not_distinct, not_once, by_groups}
use borrow.Author.Tests.{not-true, not-false}
use Rattle.edge_check.proofs.sound.Goals as goal

pub returns-then-not-distinct : goal.returns-then-not-distinct
returns-then-not-distinct c = not_distinct c.requires (sym (not-true _ (ap not c.if-not-distinct.true)) ∙ c.distinct.ensures)

pub table-requires : goal.table-requires
table-requires c = table_asks c.requires

pub returns-then-table-faces : goal.returns-then-table-faces
returns-then-table-faces c = not_once c.requires (sym (not-false _ (ap not c.if-not-distinct.false)) ∙ c.distinct.ensures) c.table.ensures c.if-table-faces.true

pub returns : goal.returns
returns c = by_groups c.requires (sym (not-false _ (ap not c.if-not-distinct.false)) ∙ c.distinct.ensures) c.table.ensures (omega arith) c.one_group.ensures
