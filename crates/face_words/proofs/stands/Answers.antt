-- `face_words::stands` meets its contract: the rule is the test. Assumes nothing.
use mathlib.Core.Path.{refl}
use Rattle.face_words.specs.Words.{stands}
use Rattle.face_words.proofs.stands.Goals as goal

-- src/lib.rt:17:1
pub returns : goal.returns
unfolding stands
returns c = refl
