-- `root_try::none` meets its contract, from what `root` ensures. Assumes nothing.
use mathlib.Core.Path.{◌≡◌, sym, ap, ◌∙◌, subst}
use mathlib.Core.Bool.{Bool, false, not}
use lib.Dec.{T}
use lib.Ieee.{Float, ne}
use Rattle.root_try.proofs.none.Goals as goal

-- a test that came out false
test : (b : Bool) → b ≡ false → T (not b)
test b e = subst (λ (x : Bool). T (not x)) (sym e) tt

pub float_from_bits-x : goal.float_from_bits-x
float_from_bits-x c = test _ c.requires.0

pub expect-requires : goal.expect-requires
unfolding ne
expect-requires c = ap (λ (x : Float). ne x x) (c.root-r.ensures ∙ c.requires.1)
