-- `searched_fans::flags` meets its contract: three flags added up. Assumes nothing.
use native.Mathlib.Omega.{arith}
use lib.Dec.{eqb}
use Rattle.searched_fans.proofs.Meeting.{flag_most, flags_sum}
use Rattle.searched_fans.proofs.flags.Goals as goal

-- src/lib.rt:123:5
pub overflow_add-result : goal.overflow_add-result
overflow_add-result c = omega (arith, c.flag.ensures, c.flag-2.ensures, flag_most (eqb c.args.a c.args.v) 16, flag_most (eqb c.args.b c.args.v) 32)

-- src/lib.rt:123:5
pub overflow_add-result-2 : goal.overflow_add-result-2
overflow_add-result-2 c = omega (
  arith,
  c.flag.ensures,
  c.flag-2.ensures,
  c.flag-3.ensures,
  flag_most (eqb c.args.a c.args.v) 16,
  flag_most (eqb c.args.b c.args.v) 32,
  flag_most (eqb c.args.c c.args.v) 64,
)

-- src/lib.rt:120:1
pub returns : goal.returns
returns c = flags_sum _ _ _ _ c.flag.ensures c.flag-2.ensures c.flag-3.ensures
