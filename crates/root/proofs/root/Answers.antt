-- `root::root` meets its contract. Assumes nothing.
use mathlib.Core.Path.{◌≡◌, refl, sym, ap, ◌∙◌, subst}
use mathlib.Core.Bool.{Bool, true, false, not, true≢false}
use lib.Dec.{T}
use lib.Ieee.{Float, nan, binary64, to_bits, of_bits, nan_bits, div}
use lib.Ieee.Bits.{of_bits-to_bits}
use lib.Ieee.Compare.{differs_from_itself}
use Rattle.root.specs.Root.{root_of}
use Rattle.root.proofs.Units.{root_of_zero, root_of_infinite, root_of_negative, no_nan_same}
use Rattle.root.proofs.Corollaries.{root_nan}
use Rattle.root.proofs.root.Goals as goal
use Rattle.root.proofs.root.Goals.{Start}

-- what owning an `f64` tells: the format holds it, so it is the float of its own pattern
back : (c : Start) → of_bits binary64 (to_bits binary64 c.args.x) ≡ c.args.x
back c = of_bits-to_bits binary64 c.args.x (subst T (sym c.well_formed.0.1) tt)

-- a fact of the float of x's pattern, as one of x
by_bits : (P : Float → Type 0) (c : Start) → P (of_bits binary64 (to_bits binary64 c.args.x)) → P c.args.x
by_bits P c h = subst P (back c) h

-- a test that is false fails
test : (b : Bool) → b ≡ false → T (not b)
test true e = absurd (true≢false e)
test false e = tt

-- zero by zero is no number
zero_by_zero : div binary64 (of_bits binary64 0) (of_bits binary64 0) ≡ nan
unfolding div of_bits
zero_by_zero = refl

-- what is no number is its own root
pub returns-then-x : goal.returns-then-x
returns-then-x c = let x = c.args.x in
    let e : x ≡ nan = differs_from_itself x (subst T (sym c.if-x.true) tt) in
    e ∙ sym (ap root_of e ∙ root_nan)

-- what equals itself is a number
pub float_to_bits-b : goal.float_to_bits-b
float_to_bits-b c = no_nan_same c.args.x c.if-x.false

-- a zero is its own root
pub returns-then-b-eq0 : goal.returns-then-b-eq0
returns-then-b-eq0 c = let s = c.before.before in
    by_bits (λ (y : Float). y ≡ root_of y) s (sym (root_of_zero (to_bits binary64 s.args.x) c.if-b-eq0.true))

-- below zero there is none
pub returns-then-b-ge9223372036854775808 : goal.returns-then-b-ge9223372036854775808
returns-then-b-ge9223372036854775808 c = let s = c.before.before.before in
    by_bits (λ (y : Float). div binary64 (of_bits binary64 0) (of_bits binary64 0) ≡ root_of y) s
    (zero_by_zero ∙ sym (root_of_negative (to_bits binary64 s.args.x) c.if-b-ge9223372036854775808.true c.if-b-eq0.false))

-- infinity is its own root
pub returns-then-b-ge9218868437227405312 : goal.returns-then-b-ge9218868437227405312
returns-then-b-ge9218868437227405312 c = let s = c.before.before.before.before in
    by_bits (λ (y : Float). y ≡ root_of y) s (sym (root_of_infinite (to_bits binary64 s.args.x) c.if-b-ge9223372036854775808.false c.if-b-ge9218868437227405312.true))

-- `pattern` gives the pattern of a number
pub float_from_bits-result : goal.float_from_bits-result
float_from_bits-result c = test (nan_bits binary64 c.pattern.result) c.pattern.ensures.1

-- that of the root
pub returns : goal.returns
returns c = c.pattern.ensures.0 ∙ ap root_of (back c.before.before.before.before.before)
