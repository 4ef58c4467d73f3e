-- `entry_search::second` meets its contract: the best of those that walk otherwise, or of all but one entry of the first choice. Assumes nothing.
use Rattle.entry_search.proofs.Keeping.{walk_of, some, rest, rest_some}
use Rattle.entry_search.proofs.second.Goals as goal

pub returns-in-Some : goal.returns-in-Some
returns-in-Some c = some c.requires.second_asks (walk_of c.requires.second_asks c.view-g.ensures c.min.ensures c.max.ensures c.walks-forward.ensures) c.best_entry-other.ensures c.in-Some.is

pub unwrap-requires : goal.unwrap-requires
unwrap-requires c = rest_some c.requires.second_asks c.best_entry.ensures

pub returns : goal.returns
returns c = rest c.requires.second_asks (walk_of c.requires.second_asks c.view-g.ensures c.min.ensures c.max.ensures c.walks-forward.ensures) c.best_entry-other.ensures c.in_default.is c.best_entry.ensures c.unwrap.ensures
