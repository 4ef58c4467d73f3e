-- `bytes::put_little` meets its contract: the first i bytes are put, and m has the others. Assumes nothing.
use Rattle.byte_rows.proofs.Little.{Little}
use Rattle.byte_rows.proofs.put_little.Given as goal

abbrev pub invariant-loop-i : goal.invariant-loop-i
invariant-loop-i l = Little l.initial.out l.at l.k l.n l.out l.m l.i
