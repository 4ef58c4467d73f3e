-- A refusal is its number and its place: no two have both. Assumes nothing.
use mathlib.Core.Path.{◌≡◌, refl, sym, ap₂, ◌∙◌}
use Rattle.std.specs.Prelude.{if◌then◌else◌}
use Prim.Native.Nat.{ℕ}
use lib.Dec.{eqb}
use Rattle.refuse.specs.Verdicts.{number_of, place_of}
use Rattle.refuse.specs.declared.Refusal.{Refusal}
use Rattle.refuse.specs.declared.Refusal.TheVariants.{BadLength, TooLarge, BadSetting, BadPoint, BadCorner, ShortRoom, CrowdedEdge, BadBoundary, BadLabel, LabelCount, BadFile, BadPly, NotATriple, BadList}

-- the refusal that has a number and a place
abbrev pub refusal_of : ℕ → ℕ → Refusal
refusal_of n p =
    if eqb n 1 then BadLength p else
    if eqb n 2 then TooLarge p else
    if eqb n 3 then BadSetting p else
    if eqb n 4 then BadPoint p else
    if eqb n 5 then BadCorner p else
    if eqb n 6 then ShortRoom p else
    if eqb n 7 then CrowdedEdge p else
    if eqb n 8 then BadBoundary p else
    if eqb n 9 then BadLabel p else
    if eqb n 10 then LabelCount else
    if eqb n 12 then BadFile else
    if eqb n 13 then BadPly else
    if eqb n 14 then NotATriple p else
    BadList p

-- it is that one
pub refusal_is : (r : Refusal) → refusal_of (number_of r) (place_of r) ≡ r
refusal_is (BadLength p) = refl
refusal_is (TooLarge p) = refl
refusal_is (BadSetting p) = refl
refusal_is (BadPoint p) = refl
refusal_is (BadCorner p) = refl
refusal_is (ShortRoom p) = refl
refusal_is (CrowdedEdge p) = refl
refusal_is (BadBoundary p) = refl
refusal_is (BadLabel p) = refl
refusal_is LabelCount = refl
refusal_is BadFile = refl
refusal_is BadPly = refl
refusal_is (NotATriple p) = refl
refusal_is (BadList p) = refl

-- so two that have the same number and the same place are one
pub one_refusal : {a b : Refusal} → number_of a ≡ number_of b → place_of a ≡ place_of b → a ≡ b
one_refusal {a} {b} n p = sym (refusal_is a) ∙ ap₂ refusal_of n p ∙ refusal_is b
