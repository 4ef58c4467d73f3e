-- `refuse::stated_work` meets its contract. Assumes nothing.
use mathlib.Core.Path.{refl}
use Rattle.rules.specs.Rooms.{work_room}
use Rattle.refuse.proofs.stated_work.Goals as goal

pub returns : goal.returns
unfolding work_room
returns c = refl
