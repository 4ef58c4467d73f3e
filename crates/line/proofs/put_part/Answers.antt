-- `line::put_part` meets its contract. Assumes nothing.
use Rattle.line.proofs.Words.{number_asks, blank_asks, label_asks, part_done}
use Rattle.line.proofs.put_part.Goals as goal

pub put_number-next-requires : goal.put_number-next-requires
put_number-next-requires c = number_asks _ c.requires.part_asks c.requires.n_bound

pub bounds-line-next : goal.bounds-line-next
bounds-line-next c = blank_asks _ c.requires.part_asks c.put_number-next.ensures

pub put_label-requires : goal.put_label-requires
put_label-requires c = label_asks _ c.requires.part_asks c.put_number-next.ensures

pub shape_of-line : goal.shape_of-line
shape_of-line c = (part_done _ c.requires.part_asks c.put_number-next.ensures c.put_label.ensures).only.long

pub returns : goal.returns
returns c = part_done _ c.requires.part_asks c.put_number-next.ensures c.put_label.ensures
