-- `write_list::is_longer` meets its contract: the room is ample, or the length is searched for. Assumes nothing.
use mathlib.Core.Path.{ap}
use lib.Dec.{ltb}
use Rattle.write_list.proofs.Ending.{input, limits, ample}
use Rattle.write_list.proofs.is_longer.Goals as goal

pub is_ample-requires : goal.is_ample-requires
is_ample-requires c = limits c.requires

pub returns-then-is_ample : goal.returns-then-is_ample
returns-then-is_ample c = ample c.requires c.args.room c.is_ample.ensures c.if-is_ample.true

pub searched_length-requires : goal.searched_length-requires
searched_length-requires c = input c.requires

pub returns : goal.returns
returns c = ap (λ k. ltb c.args.room k) c.searched_length.ensures
