-- `shell::shell_patches` meets its contract: the outcome of the patch call, told in numbers. Assumes nothing.
use Rattle.patches.specs.Answers.{rooms_of}
use Rattle.shell.proofs.Outcomes.{given_accepted, given_refused}
use Rattle.shell.proofs.Patching.{told_by}
use Rattle.shell.proofs.shell_patches.Goals as goal

pub returns-in-Ok : goal.returns-in-Ok
returns-in-Ok c = let a = c.args in
    given_accepted
    (told_by a.points.now a.faces.now a.labels.now a.patch_count (rooms_of a.face_counts.now a.numbers.now a.flags.now a.work.now)
    c.filter-by.ensures
    c.in-Ok.ensures)

pub returns-in-Err : goal.returns-in-Err
returns-in-Err c = let a = c.args in
    rw (c.number.ensures, c.place_of.ensures, c.place.ensures)
    (given_refused 3
    (told_by a.points.now a.faces.now a.labels.now a.patch_count (rooms_of a.face_counts.now a.numbers.now a.flags.now a.work.now)
    c.filter-by.ensures
    c.in-Err.ensures))
