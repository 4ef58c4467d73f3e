-- `list_room::is_uniform` meets its contract: part after part. Assumes nothing.
use Rattle.list_room.proofs.Uniforms.{told_last, told_first, told_second}
use Rattle.list_room.proofs.is_uniform.Goals as goal

pub returns-then-all_are-2 : goal.returns-then-all_are-2
returns-then-all_are-2 c = told_last c.all_are.ensures c.if-all_are.true c.all_are-then-all_are.ensures c.if-all_are-2.true c.all_are-then-all_are-2.ensures

pub returns-else-all_are-2 : goal.returns-else-all_are-2
returns-else-all_are-2 c = told_second c.all_are-then-all_are.ensures c.if-all_are-2.false

pub returns-else-all_are : goal.returns-else-all_are
returns-else-all_are c = told_first c.all_are.ensures c.if-all_are.false
