-- `text_out::put_hex` meets its contract: the last k digits are put. Assumes nothing.
use Prim.Native.Nat.{◌-◌}
use Rattle.text_out.proofs.Putting.{Left}
use Rattle.text_out.proofs.put_hex.Given as goal

abbrev pub invariant-loop-k : goal.invariant-loop-k
invariant-loop-k l = Left l.initial.out l.at l.n l.out (16 - l.k) l.m
