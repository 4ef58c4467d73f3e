-- `windows::put_corner` meets its contract. Assumes nothing.
use Rattle.std.proofs.Common.{arith, length-set}
use Rattle.windows.proofs.Passing.{next_there, previous_there, corner_put}
use Rattle.windows.proofs.put_corner.Goals as goal

pub offset_bounds-faces-next : goal.offset_bounds-faces-next
offset_bounds-faces-next c = omega (arith, next_there c.requires c.next.ensures)

pub bounds-faces-next : goal.bounds-faces-next
bounds-faces-next c = omega (arith, next_there c.requires c.next.ensures)

pub offset_bounds-faces-previous : goal.offset_bounds-faces-previous
offset_bounds-faces-previous c = omega (arith, previous_there c.requires c.previous.ensures)

pub bounds-faces-previous : goal.bounds-faces-previous
bounds-faces-previous c = omega (arith, previous_there c.requires c.previous.ensures)

pub overflow_mul-buffer : goal.overflow_mul-buffer
overflow_mul-buffer c = omega (arith, next_there c.requires c.next.ensures)

pub overflow_mul-buffer-2 : goal.overflow_mul-buffer-2
overflow_mul-buffer-2 c = omega (arith, next_there c.requires c.next.ensures, previous_there c.requires c.previous.ensures)

pub overflow_add-buffer : goal.overflow_add-buffer
overflow_add-buffer c = omega (arith, next_there c.requires c.next.ensures, previous_there c.requires c.previous.ensures)

pub bounds-buffer-p-2 : goal.bounds-buffer-p-2
bounds-buffer-p-2 c = simp length-set (omega (arith, c.requires))

pub returns : goal.returns
returns c = corner_put c.requires c.next.ensures c.previous.ensures
