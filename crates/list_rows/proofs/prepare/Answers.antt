-- `list_rows::prepare` meets its contract: one row behind the other, and what they tell. Assumes nothing.
use Rattle.list_rows.proofs.Prepared.{split_asks, takers_ask, flags_ask, prepared}
use Rattle.list_rows.proofs.prepare.Goals as goal

pub split-splits-requires : goal.split-splits-requires
split-splits-requires c = split_asks c.requires c.first_four-left.ensures

pub sort_takers-requires : goal.sort_takers-requires
sort_takers-requires c = takers_ask c.requires c.first_four-left.ensures c.split-splits.ensures

pub flag-requires : goal.flag-requires
flag-requires c = flags_ask c.requires c.first_four-left.ensures c.split-splits.ensures c.sort_takers.ensures

pub returns : goal.returns
returns c = prepared c.requires c.first_four-left.ensures c.split-splits.ensures c.sort_takers.ensures c.flag.ensures
