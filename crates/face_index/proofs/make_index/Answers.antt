-- `face_index::make_index` meets its contract. The invariant: the bits of the corners that were passed are set. Assumes nothing.
use Rattle.face_index.proofs.Finding.{size_some, note_ok, noted_all}
use Rattle.face_index.proofs.make_index.Goals as goal

pub nonzero_div-i-in-loop-i : goal.nonzero_div-i-in-loop-i
nonzero_div-i-in-loop-i c = size_some c.requires c.block_size-size.ensures

pub note-requires : goal.note-requires
note-requires c = note_ok c.requires c.block_size-size.ensures c.loop-i.invariant c.loop-i-test.true

pub returns : goal.returns
returns c = noted_all c.requires c.block_size-size.ensures c.loop-i.invariant c.loop-i-test.false
