-- `halves::decide` meets its contract. Assumes nothing.
use native.Mathlib.Omega.{arith}
use lib.ListN.{replicate}
use Rattle.std.proofs.lemmas.Result.{err_from_is_err_and}
use Rattle.halves.proofs.Halves.{bound}
use Rattle.halves.proofs.Judging.{met_right}
use Rattle.halves.proofs.Ranges.{five, all_asks}
use Rattle.halves.proofs.decide.Goals as goal

pub overflow_mul-points : goal.overflow_mul-points
overflow_mul-points c = let h = c.requires.points in omega (arith, bound 4194304 4194304 h h)

pub rounds-requires : goal.rounds-requires
rounds-requires c = all_asks c.requires c.start-s.ensures (five 0 0 0 0 0 (replicate 4091 0))

pub returns-in_err-t : goal.returns-in_err-t
returns-in_err-t c = let p = err_from_is_err_and c.from_residual.result c.from_residual.ensures.1 in
    rw (p.1, p.2) (met_right c.in_err-t.ensures.told)

pub returns : goal.returns
returns c = c.judge.ensures.right _ c.in_ok-t.ensures.told
