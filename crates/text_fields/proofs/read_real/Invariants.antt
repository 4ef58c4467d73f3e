-- `text_fields::read_real` meets its contract: the first bytes are what is written for n. Assumes nothing.
use Rattle.text_fields.proofs.Hex.{Nibbles}
use Rattle.text_fields.proofs.read_real.Given as goal

abbrev pub invariant-loop-byte : goal.invariant-loop-byte
invariant-loop-byte l = Nibbles l.field l.n l.byte-index
