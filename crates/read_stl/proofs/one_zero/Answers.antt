-- `read_stl::one_zero` meets its contract: -0 or not. Assumes nothing.
use native.Mathlib.Omega.{arith}
use Rattle.read_stl.proofs.Keying.{is_minus, is_other}
use Rattle.read_stl.proofs.one_zero.Goals as goal

pub returns-then-bits-eq2147483648 : goal.returns-then-bits-eq2147483648
returns-then-bits-eq2147483648 c = record { value = is_minus _ c.if-bits-eq2147483648.true; upper_bound = omega arith }

pub returns-else-bits-eq2147483648 : goal.returns-else-bits-eq2147483648
returns-else-bits-eq2147483648 c = record { value = is_other _ c.if-bits-eq2147483648.false; upper_bound = omega arith }
