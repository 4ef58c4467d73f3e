-- `windows::together` meets its contract. Assumes nothing.
use Rattle.std.proofs.Common.{arith}
use Rattle.windows.proofs.Advancing.{pass_asks, runs_asks, together_gives}
use Rattle.windows.proofs.together.Goals as goal

pub pass-requires : goal.pass-requires
pass-requires c = pass_asks c.requires

pub runs-requires : goal.runs-requires
runs-requires c = runs_asks c.requires (omega arith) c.pass.ensures c.pass.auto.ends c.pass.auto.buffer

pub returns : goal.returns
returns c = together_gives c.requires (omega arith) c.pass.ensures c.pass.auto.ends c.pass.auto.buffer _ c.runs.ensures
