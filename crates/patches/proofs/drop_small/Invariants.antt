-- `patches::drop_small` meets its contract: the flags before k are decided. Assumes nothing.
use Rattle.patches.specs.Answers.{filter_of, limit_of}
use Rattle.patches.proofs.Flags.{Dropped}
use Rattle.patches.proofs.drop_small.Given as goal

abbrev pub invariant-loop-k : goal.invariant-loop-k
invariant-loop-k l = Dropped l.face_counts l.numbers l.count (filter_of l.by) (limit_of l.least) l.initial.flags l.flags l.k
