-- `searched_fans::go_through` meets its contract: three crossings, one after the other. Assumes nothing.
use mathlib.Core.Path.{ap}
use native.Mathlib.Omega.{arith}
use Rattle.searched_fans.proofs.Going.{read_small, asks_one, asks_two, asks_three, as_long, went}
use Rattle.searched_fans.proofs.go_through.Goals as goal

-- src/lib.rt:90:16
pub overflow_add-words : goal.overflow_add-words
overflow_add-words c = omega (arith, read_small c.requires.through_asks)

-- src/lib.rt:91:5
pub cross-requires : goal.cross-requires
cross-requires c = record { cross_asks = asks_one c.requires.through_asks; indexed = c.requires.indexed }

-- src/lib.rt:92:5
pub cross-requires-2 : goal.cross-requires-2
cross-requires-2 c = record { cross_asks = asks_two c.requires.through_asks c.cross.ensures; indexed = c.requires.indexed }

-- src/lib.rt:93:5
pub cross-requires-3 : goal.cross-requires-3
cross-requires-3 c = record { cross_asks = asks_three c.requires.through_asks c.cross.ensures c.cross-2.ensures; indexed = c.requires.indexed }

-- src/lib.rt:85:1
pub shape_of-words : goal.shape_of-words
shape_of-words c = as_long c.requires.through_asks c.cross.ensures c.cross-2.ensures c.cross-3.ensures

-- src/lib.rt:85:1
pub returns : goal.returns
returns c = went c.requires.through_asks c.cross.ensures c.cross-2.ensures c.cross-3.ensures (ap (λ f. f.a) c.view-c.ensures) (ap (λ f. f.b) c.view-c.ensures) (ap (λ f. f.c) c.view-c.ensures)
