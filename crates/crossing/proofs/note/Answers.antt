-- `crossing::note` meets its contract. Assumes nothing.
use Rattle.crossing.proofs.Noting.{note_gives}
use Rattle.crossing.proofs.note.Goals as goal

pub lone-up-requires : goal.lone-up-requires
lone-up-requires c = c.requires.run

pub lone-down-requires : goal.lone-down-requires
lone-down-requires c = c.requires.run

pub returns : goal.returns
returns c = note_gives c.requires _ _ _ _ c.lone-up.ensures c.lone-down.ensures
