-- `line::value` meets its contract: each entry of `summed`, and below 10 ^ 10 since a u32 is below 2 ^ 32. Assumes nothing.
use Prim.Native.Nat.{◌+◌}
use native.Mathlib.Omega.{arith}
use Rattle.line.proofs.Summed.{summed_first, summed_behind}
use Rattle.line.proofs.value.Goals as goal

pub returns-then-k-eq0 : goal.returns-then-k-eq0
returns-then-k-eq0 c = let known = c.shared_slice_known-then-k-eq0-2-1.given in
    record { value = summed_first _ _ _ (omega arith) (omega arith) (omega arith); upper_bound = omega (arith, known 0, known 1) }

pub returns : goal.returns
returns c = record { value = summed_behind _ _ _ (omega arith) (omega arith) (omega arith); upper_bound = omega (arith, c.shared_slice_known-2-1.given (c.args.k + 1)) }
