-- `text_try::refuse` meets its contract: the bytes that it writes are a front of the room. Assumes nothing.
use native.Mathlib.Omega.{arith}
use lib.ListN.{length-take}
use Rattle.text_try.proofs.refuse.Goals as goal

pub slice_bounds-write_all-end : goal.slice_bounds-write_all-end
slice_bounds-write_all-end g c = simp length-take (omega (arith, c.put_refusal-end.ensures.only.long))
