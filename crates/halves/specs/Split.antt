-- How often a value stands in a region, and what the functions over the buffer of half entries ask and give.
-- A half entry is 2 * k for a step that begins at the key's vertex and 2 * k + 1 for one that ends there.
use Rattle.std.specs.Prelude.{◌≡◌, List, cond, ℕ, zero, suc, ◌+◌, ◌*◌, ◌/◌, ◌≤◌, ◌<◌, eqb, get_or}
use Rattle.rows.specs.Region.{Only}

-- 1 where y is x, else 0
unfoldable pub hit : ℕ → ℕ → ℕ
hit y x = cond (eqb y x) 1 0

-- how many of the n entries from s on are x
unfoldable pub tally : List ℕ → ℕ → ℕ → ℕ → ℕ
tally a s zero x = 0
tally a s (suc n) x = tally a s n x + hit (get_or a (s + n) 0) x

-- those below mid stand first, and each value as often as before
pub record SplitGives (a : List ℕ) (s n mid : ℕ) (a' : List ℕ) (m : ℕ) : Type 0 where
  pub only : Only s n a a'
  pub fewer : m ≤ n
  pub low : (i : ℕ) → i < m → get_or a' (s + i) 0 / 2 < mid
  pub high : (i : ℕ) → m ≤ i → i < n → mid ≤ get_or a' (s + i) 0 / 2
  pub same : (x : ℕ) → tally a' s n x ≡ tally a s n x

-- low and high are the least and the greatest key of the region
pub record SpanGives (a : List ℕ) (s n low high : ℕ) : Type 0 where
  pub each_low : (i : ℕ) → i < n → low ≤ get_or a (s + i) 0 / 2
  pub each_high : (i : ℕ) → i < n → get_or a (s + i) 0 / 2 ≤ high
  pub low_at : (from : ℕ) → ((i : ℕ) → i < n → from ≤ get_or a (s + i) 0 / 2) → from ≤ low
  pub high_at : (to : ℕ) → ((i : ℕ) → i < n → get_or a (s + i) 0 / 2 < to) → high < to

-- b entries are even: where all have the key k, that many are 2 * k and the others 2 * k + 1
pub record EvensGives (a : List ℕ) (s n b : ℕ) : Type 0 where
  pub fewer : b ≤ n
  pub even : (k : ℕ) → ((i : ℕ) → i < n → get_or a (s + i) 0 / 2 ≡ k) → b ≡ tally a s n (2 * k)
  pub odd : (k : ℕ) → ((i : ℕ) → i < n → get_or a (s + i) 0 / 2 ≡ k) → n ≡ b + tally a s n (2 * k + 1)
