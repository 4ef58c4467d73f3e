-- `face_index::bucket` meets its contract. Assumes nothing.
use mathlib.Core.Path.{refl}
use Rattle.face_index.specs.Index.{bucket_of}
use Rattle.face_index.proofs.bucket.Goals as goal

pub returns : goal.returns
returns c = unfold bucket_of in refl
