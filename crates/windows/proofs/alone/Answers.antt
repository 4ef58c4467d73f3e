-- `windows::alone` meets its contract. Assumes nothing.
use Rattle.std.proofs.Common.{arith}
use Rattle.windows.proofs.Advancing.{alone_bounds, alone_asks, alone_pass, alone_gives}
use Rattle.windows.proofs.alone.Goals as goal

pub overflow_mul-from : goal.overflow_mul-from
overflow_mul-from c = omega (arith, alone_bounds c.requires)

pub overflow_add-from : goal.overflow_add-from
overflow_add-from c = omega (arith, alone_bounds c.requires)

pub rounds-requires : goal.rounds-requires
rounds-requires c = alone_asks c.requires

pub pass-requires : goal.pass-requires
pass-requires c = alone_pass c.requires

pub returns : goal.returns
returns c = alone_gives c.requires c.in_ok-r.ensures c.pass.ensures
