-- `face_index::block_size` meets its contract. Assumes nothing.
use mathlib.Core.Path.{refl}
use Rattle.face_index.specs.Index.{size_of, width_of}
use Rattle.face_index.proofs.block_size.Goals as goal

pub returns : goal.returns
returns c = unfold size_of width_of in refl
