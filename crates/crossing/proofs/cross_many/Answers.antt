-- `crossing::cross_many` meets its contract. Assumes nothing.
use Rattle.crossing.proofs.Crossings.{who_asks, mark_asks, cross_gives}
use Rattle.crossing.proofs.cross_many.Goals as goal

pub open-requires : goal.open-requires
open-requires c = c.requires.settle

pub who-known-requires : goal.who-known-requires
who-known-requires c = who_asks c.requires c.open.ensures

pub mark-requires : goal.mark-requires
mark-requires c = mark_asks c.requires c.open.ensures

pub returns : goal.returns
returns c = cross_gives c.requires c.open.ensures c.who-known.ensures c.mark.ensures
