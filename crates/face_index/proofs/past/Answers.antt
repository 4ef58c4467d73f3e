-- `face_index::past` meets its contract: a whole word, a block, or one face. Assumes nothing.
use Rattle.face_index.proofs.Blocks.{past_word, past_block}
use Rattle.face_index.proofs.past.Goals as goal

pub returns-then-x-eq0 : goal.returns-then-x-eq0
returns-then-x-eq0 c = past_word c.requires c.if-x-eq0.true

pub returns-then-x-bit-eq0 : goal.returns-then-x-bit-eq0
returns-then-x-bit-eq0 c = past_block c.requires c.if-x-bit-eq0.true
