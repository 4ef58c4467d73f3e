-- `text_fields::read_plain` meets its contract: the first bytes are what is written for n. Assumes nothing.
use Rattle.text_fields.proofs.Numbers.{Digits}
use Rattle.text_fields.proofs.read_plain.Given as goal

abbrev pub invariant-loop-byte : goal.invariant-loop-byte
invariant-loop-byte l = Digits l.field l.n l.byte-index
