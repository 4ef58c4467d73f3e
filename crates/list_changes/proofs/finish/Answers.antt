-- `list_changes::finish` meets its contract: its parts in a row. Assumes nothing.
use Rattle.list_changes.proofs.Finishing.{number_asks, renumber_asks, finish_gives}
use Rattle.list_changes.proofs.finish.Goals as goal

pub number_kept-requires : goal.number_kept-requires
number_kept-requires c = number_asks c.requires c.retain-kept.ensures

pub renumber-requires : goal.renumber-requires
renumber-requires c = renumber_asks c.requires c.retain-kept.ensures c.number_kept.ensures

pub returns : goal.returns
returns c = λ q. finish_gives q c.retain-kept.ensures c.number_kept.ensures c.renumber.ensures c.retain-left.ensures
