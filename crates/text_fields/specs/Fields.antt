-- The words of this crate's contracts: pieces of a text, and what a field holds. Definitions only.
use Rattle.std.specs.Prelude.{◌≡◌, cond, Option, Some, None, List, [], ◌∷◌, ℕ, ◌+◌, ◌-◌, ◌^◌, ◌≤◌, ◌<◌, ltb, leb, length, drop}
use Rattle.std.proofs.Math.Option as rule-option
use Rattle.rows.specs.Region.{part}
use Rattle.rules.specs.Line.{plain}
use Rattle.rules.specs.Text as rule

-- the piece that begins at `from` ends at r: there the next separator stands, or the text ends
pub record Piece (xs : List ℕ) (from at r : ℕ) : Type 0 where
  pub begins : from ≤ r
  pub ends : r ≤ length xs
  pub last : r ≡ length xs → rule.parted at (drop from xs) ≡ part xs from (r - from) ∷ []
  pub more : r < length xs → rule.parted at (drop from xs) ≡ part xs from (r - from) ∷ rule.parted at (drop (r + 1) xs)

-- the number that a decimal digit writes
unfoldable pub digit : ℕ → Option ℕ
digit b = cond (ltb b 48) None (cond (ltb 57 b) None (Some (b - 48)))

-- the number that a lower-case hex digit writes
unfoldable pub nibble : ℕ → Option ℕ
nibble b = cond (ltb b 48) None (cond (leb b 57) (Some (b - 48)) (cond (ltb b 97) None (cond (ltb 102 b) None (Some (b - 87)))))

-- a field of at most 19 digits is what is written for n
pub record PlainIs (field : List ℕ) (n : ℕ) : Type 0 where
  pub few : n < 10 ^ 19
  pub form : field ≡ plain n

-- or it is what is written for no number of at most 19 digits
pub record PlainNone (field : List ℕ) : Type 0 where
  pub none : (n : ℕ) → n < 10 ^ 19 → field ≡ plain n → ⊥

-- what a field read as a number in plain decimal says of it
abbrev pub Plains : List ℕ → Option ℕ → Type 0
Plains field (Some n) = PlainIs field n
Plains field None = PlainNone field

-- what a field holds, as the rules have it
abbrev pub held : {A : Type 0} → Option A → rule-option.Option A
held (Some x) = rule-option.some x
held None = rule-option.none
