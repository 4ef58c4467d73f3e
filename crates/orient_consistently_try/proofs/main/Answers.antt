-- `orient_consistently_try::main` meets what its calls ask: antt computes the faces' corners. Assumes nothing.
use mathlib.Core.Path.{refl}
use lib.Dec.{lit≤}
use Rattle.orient_consistently_try.proofs.Ready.{ready}
use Rattle.orient_consistently_try.proofs.main.Goals as goal

pub run-requires : goal.run-requires
run-requires c = ready _ 2 4 (lit≤ tt) (lit≤ tt) (lit≤ tt) refl

pub run-requires-2 : goal.run-requires-2
run-requires-2 c = ready _ 2 4 (lit≤ tt) (lit≤ tt) (lit≤ tt) refl

pub run-requires-3 : goal.run-requires-3
run-requires-3 c = ready _ 3 5 (lit≤ tt) (lit≤ tt) (lit≤ tt) refl

pub run-requires-4 : goal.run-requires-4
run-requires-4 c = ready _ 5 5 (lit≤ tt) (lit≤ tt) (lit≤ tt) refl

pub run-requires-5 : goal.run-requires-5
run-requires-5 c = ready _ 3 4 (lit≤ tt) (lit≤ tt) (lit≤ tt) refl

pub run-requires-6 : goal.run-requires-6
run-requires-6 c = ready _ 3 5 (lit≤ tt) (lit≤ tt) (lit≤ tt) refl

pub run-requires-7 : goal.run-requires-7
run-requires-7 c = ready _ 3 5 (lit≤ tt) (lit≤ tt) (lit≤ tt) refl
