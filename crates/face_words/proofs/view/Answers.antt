-- `face_words::view` meets its contract: the corners are read in their order, or the last two exchanged. Assumes nothing.
use native.Mathlib.Omega.{arith}
use Rattle.face_words.proofs.Reading.{seen_straight, seen_exchanged}
use Rattle.face_words.proofs.view.Goals as goal

-- src/lib.rt:33:9
pub returns-then-words-f-eq0 : goal.returns-then-words-f-eq0
returns-then-words-f-eq0 c = let start = c.before.before.before.before.before in seen_straight start.requires (omega arith)

-- src/lib.rt:25:1
pub returns : goal.returns
returns c = let start = c.before.before.before.before.before in seen_exchanged start.requires c.if-words-f-eq0.false
