-- What a run asks. Definitions only.
use Rattle.std.specs.Prelude.{List, ℕ, ◌*◌, ◌≤◌, ◌<◌, length, get_or}

-- n faces of P points at the front of xs, at most five of either
pub record RunAsks (xs : List ℕ) (n P : ℕ) : Type 0 where
  pub few : n ≤ 5
  pub points : P ≤ 5
  pub fit : 3 * n ≤ length xs
  pub inside : (i : ℕ) → i < 3 * n → get_or xs i 0 < P
