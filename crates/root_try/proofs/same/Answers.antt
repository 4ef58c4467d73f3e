-- `root_try::same` meets its contract, from what `root` ensures. Assumes nothing.
use mathlib.Core.Path.{◌≡◌, sym, ap, ◌∙◌, subst}
use mathlib.Core.Bool.{Bool, false, not}
use lib.Dec.{T}
use lib.Ieee.{binary64, to_bits, is_nan}
use borrow.Author.Tests.{eq-eqb}
use Rattle.root_try.proofs.same.Goals as goal

-- a test that came out false
test : (b : Bool) → b ≡ false → T (not b)
test b e = subst (λ (x : Bool). T (not x)) (sym e) tt

pub float_from_bits-x : goal.float_from_bits-x
float_from_bits-x c = test _ c.requires.0

pub float_to_bits-r : goal.float_to_bits-r
float_to_bits-r c = test _ (ap is_nan c.root-r.ensures ∙ c.requires.1)

pub expect-requires : goal.expect-requires
expect-requires c = eq-eqb _ _ (ap (to_bits binary64) c.root-r.ensures ∙ c.requires.2)
