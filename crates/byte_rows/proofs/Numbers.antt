-- A number is put in decimal: its one digit, or its tenth and then the last. Assumes nothing.
use mathlib.Core.Path.{◌≡◌, ap}
use mathlib.Core.List.{List, [], ◌∷◌, ◌++◌}
use Prim.Native.Nat.{ℕ, ◌+◌, ◌/◌, ◌%◌, ◌≤◌, ◌<◌}
use native.Mathlib.Omega.{arith}
use lib.ListN.{length, length-append}
use Rattle.rules.specs.Line.{decimal}
use Rattle.rule_laws.proofs.Digits.{decimal_one, decimal_more}
use Rattle.byte_rows.specs.Put.{Puts, DigitAsks, NumberAsks}
use Rattle.byte_rows.proofs.Putting.{puts_both}

module _ {w : List ℕ} {at n : ℕ} (p : NumberAsks w at n) where
  -- the digit of a number below ten has room
  pub one_asks : n < 10 → DigitAsks w at n
  one_asks h = record { digit = h; room = omega (arith, ap length (decimal_one n h)) }

  module _ (h : 10 ≤ n) where
    -- a number of two digits or more is its tenth and its last digit
    parted : decimal n ≡ decimal (n / 10) ++ ((48 + n % 10) ∷ [])
    parted = decimal_more n h p.short

    -- the tenth is a byte shorter
    pub tenth_asks : NumberAsks w at (n / 10)
    tenth_asks = record { short = omega (arith, p.short); room = omega (arith, p.room, simp length-append at (ap length parted)) }

    -- the last digit has room behind it
    pub last_asks : {w' : List ℕ} {mid : ℕ} → Puts w at (decimal (n / 10)) w' mid → DigitAsks w' mid (n % 10)
    last_asks q =
        let l = q.only.long in
        record { digit = omega arith; room = omega (arith, p.room, q.ends, simp length-append at (ap length parted)) }

    -- the tenth and the last digit are the number
    pub number_done : {w' w'' : List ℕ} {mid end : ℕ} → Puts w at (decimal (n / 10)) w' mid → Puts w' mid ((48 + n % 10) ∷ []) w'' end → Puts w at (decimal n) w'' end
    number_done q r = rw parted (puts_both q r)
