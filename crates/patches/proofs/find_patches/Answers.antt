-- `patches::find_patches` meets its contract: the checks refuse, or the rooms are filled. Assumes nothing.
use native.Mathlib.Omega.{arith}
use Rattle.std.proofs.lemmas.Result.{err_from_is_err_and}
use Rattle.patches.specs.Answers.{filter_of, rooms_of}
use Rattle.patches.proofs.Ending.{is_refused, is_accepted, is_done}
use Rattle.patches.proofs.find_patches.Goals as goal

pub returns-in_err-patches_refusal : goal.returns-in_err-patches_refusal
returns-in_err-patches_refusal c = let a = c.args in
    let p = err_from_is_err_and c.from_residual.result c.from_residual.ensures.1 in
    rw (p.1, p.2) (is_refused a.points.now a.faces.now a.labels.now a.count (filter_of a.by) (rooms_of a.face_counts.now a.numbers.now a.flags.now a.work.now) _ c.in_err-patches_refusal.ensures)

pub fill_rooms-requires : goal.fill_rooms-requires
fill_rooms-requires c = let a = c.args in
    is_accepted a.points.now a.faces.now a.labels.now a.count (filter_of a.by) (rooms_of a.face_counts.now a.numbers.now a.flags.now a.work.now)
    c.in_ok-patches_refusal.ensures

pub overflow_mul-result : goal.overflow_mul-result
overflow_mul-result c = let a = c.args in
    omega (
      arith,
      (is_accepted a.points.now a.faces.now a.labels.now a.count (filter_of a.by) (rooms_of a.face_counts.now a.numbers.now a.flags.now a.work.now)
          c.in_ok-patches_refusal.ensures).patches,
    )

pub returns : goal.returns
returns c = let a = c.args in
    is_done a.points.now a.faces.now a.labels.now a.count (filter_of a.by) (rooms_of a.face_counts.now a.numbers.now a.flags.now a.work.now)
    c.in_ok-patches_refusal.ensures c.fill_rooms.ensures
