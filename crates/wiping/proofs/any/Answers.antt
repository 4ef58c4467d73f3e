-- `wiping::any` meets its contract: four quarters, and what is left behind them. Assumes nothing.
use Rattle.wiping.proofs.Blocks.{any_rest, any_bit}
use Rattle.wiping.proofs.any.Goals as goal

pub returns : goal.returns
returns g c = let a = any_rest c.any_in_four-x.ensures c.any_in_line-y.ensures in
    any_bit a c.both.ensures c.some.ensures
