-- `list_text_try::show_list` meets its contract: the text is as long as was found. Assumes nothing.
use native.Mathlib.Omega.{arith}
use lib.ListN.{length-take}
use Rattle.list_text_try.proofs.show_list.Goals as goal

pub slice_bounds-write_all-end : goal.slice_bounds-write_all-end
slice_bounds-write_all-end g c = simp length-take (omega (arith, c.list_text-end.ensures.ends, c.list_text-end.ensures.fits, c.list_text-end.ensures.only.long))
