-- `searched_splits::close` meets its contract: by a search, or the corner alone. Assumes nothing.
use mathlib.Core.Path.{◌≡◌, sym, ap, ◌∙◌, subst}
use mathlib.Core.Bool.{Bool, ◌&&◌}
use native.Mathlib.Omega.{arith}
use lib.Dec.{T, eqb}
use Rattle.rules.specs.Mesh.{Face}
use Rattle.rule_laws.proofs.Digits.{decimal_short}
use Rattle.fan_laws.specs.Opening.{single}
use Rattle.searched_splits.proofs.Closing.{bit_most, reach_ask, reached, given, kept}
use Rattle.searched_splits.proofs.close.Goals as goal

-- what the test says of the face
tested : {f g : Face} {r b : Bool} → r ≡ (eqb f.a f.b && eqb f.b f.c) → f ≡ g → r ≡ b → single g ≡ b
unfolding single
tested e q t = ap single (sym q) ∙ sym e ∙ t

-- src/lib.rt:145:20
pub overflow_add-words : goal.overflow_add-words
overflow_add-words c = omega (arith, c.requires.close_asks.few c.args.f c.requires.close_asks.here, c.bit.ensures, bit_most c.args.k)

-- src/lib.rt:147:20
pub overflow_add-result : goal.overflow_add-result
overflow_add-result c = omega (arith, c.number_length.ensures, decimal_short c.args.f)

-- src/lib.rt:147:13
pub returns-then-gives : goal.returns-then-gives
returns-then-gives c = given c.requires.close_asks (subst T (sym (tested c.same.ensures c.view-c.ensures c.if-same.true)) tt) c.bit.ensures (sym c.gives.ensures ∙ c.if-gives.true) c.number_length.ensures

-- src/lib.rt:149:9
pub returns-then-same : goal.returns-then-same
returns-then-same c = kept c.requires.close_asks (subst T (sym (tested c.same.ensures c.view-c.ensures c.if-same.true)) tt) c.bit.ensures (sym c.gives.ensures ∙ c.if-gives.false)

-- src/lib.rt:151:5
pub reach-requires : goal.reach-requires
reach-requires c = record { reach_asks = reach_ask c.requires.close_asks (tested c.same.ensures c.view-c.ensures c.if-same.false); indexed = c.requires.indexed }

-- src/lib.rt:138:1
pub returns : goal.returns
returns c = let e = tested c.same.ensures c.view-c.ensures c.if-same.false in
    reached c.requires.close_asks e (c.reach.ensures (reach_ask c.requires.close_asks e))
