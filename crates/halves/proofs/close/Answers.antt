-- `halves::close` meets its contract. Assumes nothing.
use mathlib.Core.Path.{refl}
use native.Mathlib.Omega.{arith}
use Rattle.halves.proofs.Closing.{close_on}
use Rattle.halves.proofs.close.Goals as goal

pub returns : goal.returns
returns c =
    record {
      unique = refl;
      at = refl;
      begins = omega arith;
      ends = omega arith;
      upto = λ d P k near m l t. rw c.or-bad.ensures (close_on (omega (arith, c.if-v-t.false)) near m t _ c.fault.ensures);
    }
