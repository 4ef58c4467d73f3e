-- `halves::put` meets its contract. Assumes nothing.
use mathlib.Core.Path.{◌∙◌}
use mathlib.Core.Logic.{inl, inr}
use lib.ListN.{length-set}
use Rattle.halves.proofs.Gathering.{put_low, put_high, put_more, shrink_asks, put_shrunk}
use Rattle.halves.proofs.put.Goals as goal

pub returns-then-k-from : goal.returns-then-k-from
returns-then-k-from c = elim c.then-k-from.either [ inl h ↦ put_low c.requires h | inr h ↦ put_high c.requires h.1 ]

pub returns-then-n-buffer : goal.returns-then-n-buffer
returns-then-n-buffer c = put_more c.requires c.if-k-from.false c.if-to-k.false c.if-n-buffer.true

pub shrink-requires : goal.shrink-requires
shrink-requires c = shrink_asks c.requires c.if-k-from.false c.if-to-k.false c.if-n-buffer.false

pub shape_of-buffer : goal.shape_of-buffer
shape_of-buffer c = c.shrink.auto.buffer ∙ simp length-set

pub returns : goal.returns
returns c = put_shrunk c.requires c.if-k-from.false c.if-to-k.false c.if-n-buffer.false c.shrink.ensures
