-- Checks in their order: a group that finds something decides, and after one that does not the next decides. Assumes nothing.
use mathlib.Core.Path.{◌≡◌, refl, sym, ap, ◌∙◌}
use mathlib.Core.List.{List, [], ◌∷◌, ◌++◌}
use Prim.Native.Nat.{ℕ}
use Rattle.rules.specs.Refusal.{Check, ok, no, decided}
use Rattle.rule_laws.proofs.Decided.{decided_some, decided_none}

-- ---- a group of checks

-- the group xs found something
pub hand_on : (xs ys : List Check) (n p : ℕ) → no n p ≡ decided xs → no n p ≡ decided (xs ++ ys)
hand_on xs ys n p e = sym (decided_some xs ys n p (sym e))

-- the group xs found nothing
pub go_on : (xs ys : List Check) (r : Check) → ok ≡ decided xs → r ≡ decided ys → r ≡ decided (xs ++ ys)
go_on xs ys r e h = h ∙ sym (decided_none xs ys (sym e))

-- ---- a single check

-- it decides where it is the only one
one : (x : Check) → decided (x ∷ []) ≡ x
unfolding decided
one ok = refl
one (no n p) = refl

-- the last check
pub last : (x r : Check) → r ≡ x → r ≡ decided (x ∷ [])
last x r e = e ∙ sym (one x)

-- it found something
pub stop_at : (x : Check) (ys : List Check) (n p : ℕ) → no n p ≡ x → no n p ≡ decided (x ∷ ys)
stop_at x ys n p e = sym (decided_some (x ∷ []) ys n p (one x ∙ sym e))

-- it found nothing
pub go_past : (x : Check) (ys : List Check) (r : Check) → ok ≡ x → r ≡ decided ys → r ≡ decided (x ∷ ys)
go_past x ys r e h = h ∙ sym (decided_none (x ∷ []) ys (one x ∙ sym e))
