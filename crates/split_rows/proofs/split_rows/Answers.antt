-- `split_rows::split_rows` meets its contract. Assumes nothing.
use mathlib.Core.Path.{sym}
use Rattle.split_rows.proofs.Ending.{long, sort_ok, all-ok, rename_ok, least, done}
use Rattle.split_rows.proofs.split_rows.Goals as goal

pub slice_bounds-sort_corners-end-2 : goal.slice_bounds-sort_corners-end-2
slice_bounds-sort_corners-end-2 c = sym (long c.requires)

pub sort_corners-requires : goal.sort_corners-requires
sort_corners-requires c = sort_ok c.requires

pub split_all-next-requires : goal.split_all-next-requires
split_all-next-requires c = all-ok c.requires c.sort_corners.ensures

pub rename-requires : goal.rename-requires
rename-requires c = rename_ok c.requires c.sort_corners.ensures (c.split_all-next.ensures (all-ok c.requires c.sort_corners.ensures))

pub overflow_sub-result : goal.overflow_sub-result
overflow_sub-result c = least c.requires c.sort_corners.ensures (c.split_all-next.ensures (all-ok c.requires c.sort_corners.ensures))

pub returns : goal.returns
returns c = done c.requires c.sort_corners.ensures (c.split_all-next.ensures (all-ok c.requires c.sort_corners.ensures)) c.rename.ensures
