-- `root_try::main` meets its contract: antt runs `root_of`. Assumes nothing.
use mathlib.Core.Path.{refl}
use lib.Ieee.{of_bits, to_bits, nan_bits, is_nan}
use Rattle.root.specs.Root.{root_of}
use Rattle.root_try.proofs.main.Goals as goal

pub same-requires : goal.same-requires
unfolding root_of of_bits to_bits nan_bits is_nan
same-requires c = (refl, refl, refl)

pub same-requires-2 : goal.same-requires-2
unfolding root_of of_bits to_bits nan_bits is_nan
same-requires-2 c = (refl, refl, refl)

pub same-requires-3 : goal.same-requires-3
unfolding root_of of_bits to_bits nan_bits is_nan
same-requires-3 c = (refl, refl, refl)

pub same-requires-4 : goal.same-requires-4
unfolding root_of of_bits to_bits nan_bits is_nan
same-requires-4 c = (refl, refl, refl)

pub same-requires-5 : goal.same-requires-5
unfolding root_of of_bits to_bits nan_bits is_nan
same-requires-5 c = (refl, refl, refl)

pub same-requires-6 : goal.same-requires-6
unfolding root_of of_bits to_bits nan_bits is_nan
same-requires-6 c = (refl, refl, refl)

pub same-requires-7 : goal.same-requires-7
unfolding root_of of_bits to_bits nan_bits is_nan
same-requires-7 c = (refl, refl, refl)

pub same-requires-8 : goal.same-requires-8
unfolding root_of of_bits to_bits nan_bits is_nan
same-requires-8 c = (refl, refl, refl)

pub same-requires-9 : goal.same-requires-9
unfolding root_of of_bits to_bits nan_bits is_nan
same-requires-9 c = (refl, refl, refl)

pub same-requires-10 : goal.same-requires-10
unfolding root_of of_bits to_bits nan_bits is_nan
same-requires-10 c = (refl, refl, refl)

pub same-requires-11 : goal.same-requires-11
unfolding root_of of_bits to_bits nan_bits is_nan
same-requires-11 c = (refl, refl, refl)

pub same-requires-12 : goal.same-requires-12
unfolding root_of of_bits to_bits nan_bits is_nan
same-requires-12 c = (refl, refl, refl)

pub same-requires-13 : goal.same-requires-13
unfolding root_of of_bits to_bits nan_bits is_nan
same-requires-13 c = (refl, refl, refl)

pub same-requires-14 : goal.same-requires-14
unfolding root_of of_bits to_bits nan_bits is_nan
same-requires-14 c = (refl, refl, refl)

pub same-requires-15 : goal.same-requires-15
unfolding root_of of_bits to_bits nan_bits is_nan
same-requires-15 c = (refl, refl, refl)

pub none-requires : goal.none-requires
unfolding root_of of_bits nan_bits
none-requires c = (refl, refl)

pub none-requires-2 : goal.none-requires-2
unfolding root_of of_bits nan_bits
none-requires-2 c = (refl, refl)

pub none-requires-3 : goal.none-requires-3
unfolding root_of of_bits nan_bits
none-requires-3 c = (refl, refl)
