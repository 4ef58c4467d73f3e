-- `searched_length::in_rows` meets its contract: the words are cleared, and the faces are indexed. Assumes nothing.
use Rattle.searched_length.proofs.Rows.{front, rows_ask}
use Rattle.searched_length.proofs.in_rows.Goals as goal

pub slice_bounds-all_lines-end-2 : goal.slice_bounds-all_lines-end-2
slice_bounds-all_lines-end-2 c = front c.requires c.clear.ensures.only

pub all_lines-requires : goal.all_lines-requires
all_lines-requires c = rows_ask c.requires c.clear.ensures.only c.clear.ensures.filled c.make_index.ensures
