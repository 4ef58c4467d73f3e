-- Where nothing is found of the lengths and of the contents, the input is accepted. Assumes nothing.
use mathlib.Core.Path.{◌≡◌, sym}
use mathlib.Core.Bool.{Bool, false}
use mathlib.Core.List.{List}
use Prim.Native.Nat.{ℕ}
use lib.ListN.{length}
use lib.Ieee.{Float}
use Rattle.std.specs.Prelude.{Result, Ok, Err}
use Rattle.std.specs.Result.{is_err}
use Rattle.rules.specs.Refusal.{Check, ok, decided}
use Rattle.rule_laws.proofs.Decided.{decided_all}
use Rattle.refuse.specs.Accepted.{Accepted}
use Rattle.refuse.specs.Verdicts.{check_of, sizes, contents}
use Rattle.refuse.specs.declared.Refusal.{Refusal}
use Rattle.refuse.proofs.Accept.{input_from}

-- a check that is no error found nothing
found_none : {A : Type 0} (v : Result A Refusal) {x : Check} {b : Bool} → check_of v ≡ x → b ≡ is_err v → b ≡ false → x ≡ ok
found_none (Ok a) e h f = sym e
found_none (Err r) e h f = absurd (cc)

pub ready :
    (ps : List Float) (xs : List ℕ) {A : Type 0} (v w : Result A Refusal) {b c : Bool}
    → check_of v ≡ decided (sizes (length ps) (length xs)) → b ≡ is_err v → b ≡ false → check_of w ≡ decided (contents ps xs) → c ≡ is_err w → c ≡ false
    → Accepted ps xs
ready ps xs v w e h t f k u =
    let a = decided_all (sizes (length ps) (length xs)) (found_none v e h t) in
    let b = decided_all (contents ps xs) (found_none w f k u) in
    input_from ps xs a.0 a.1.0 a.1.1.0 a.1.1.1.0 b.0 b.1.0
