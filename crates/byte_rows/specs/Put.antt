-- The words of this crate's contracts: what a function puts into a room of bytes. Definitions only.
use Rattle.std.specs.Prelude.{◌≡◌, List, ℕ, ◌+◌, ◌^◌, ◌≤◌, ◌<◌, length}
use Rattle.rows.specs.Region.{part, Only}
use Rattle.rules.specs.Line.{decimal}

-- the bytes xs are put into the room from `at` on, all else stays, and the text goes on at `next`
pub record Puts (w : List ℕ) (at : ℕ) (xs : List ℕ) (w' : List ℕ) (next : ℕ) : Type 0 where
  pub fits : at + length xs ≤ length w
  pub only : Only at (length xs) w w'
  pub text : part w' at (length xs) ≡ xs
  pub ends : next ≡ at + length xs

-- room for a digit
pub record DigitAsks (w : List ℕ) (at n : ℕ) : Type 0 where
  pub digit : n < 10
  pub room : at < length w

-- a number of at most ten digits, and room for it in decimal
pub record NumberAsks (w : List ℕ) (at n : ℕ) : Type 0 where
  pub short : n < 10 ^ 10
  pub room : at + length (decimal n) ≤ length w
