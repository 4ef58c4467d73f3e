-- What the walk from a vertex asks and gives, over the row of P entries from `next` on, and the reversed listing. Definitions only.
use Rattle.std.specs.Prelude.{◌≡◌, ◌≢◌, cond, List, ℕ, suc, ◌+◌, ◌-◌, ◌^◌, ◌≤◌, ◌<◌, length, get_or}
use Rattle.rows.specs.Region.{Apart, Only, Only2, Holds}
use Rattle.rules.specs.Lists.{has}
use Rattle.rule_laws.proofs.Along.{down}

-- the row leads from v through n different vertices, the last of which leads to v again; or, if n is 0, nowhere
pub record WalkAsks (w : List ℕ) (P next spare v : ℕ) : Type 0 where
  pub n : ℕ
  pub at : ℕ → ℕ
  pub few : P < 2 ^ 32
  pub next_fit : next + P ≤ length w
  pub spare_fit : spare + n ≤ length w
  pub apart : Apart next P spare n
  pub begins : at 0 ≡ v
  pub inside : (k : ℕ) → k ≤ n → at k < P
  pub steps : (k : ℕ) → k < n → get_or w (next + at k) 0 ≡ at (suc k)
  pub differ : (k l : ℕ) → k < l → l < n → at k ≢ at l
  pub stays : n ≡ 0 → P ≤ get_or w (next + v) 0
  pub back : 0 < n → at n ≡ v

-- they are listed, and no longer lead anywhere
pub record WalkGives {w : List ℕ} {P next spare v : ℕ} (q : WalkAsks w P next spare v) (w' : List ℕ) (r : ℕ) : Type 0 where
  pub count : r ≡ q.n
  pub only : Only2 next P spare q.n w w'
  pub listed : Holds spare q.n q.at w'
  pub marked : Holds next P (λ x. cond (has x (down q.at q.n)) P (get_or w (next + x) 0)) w'

-- n entries of a row, and room for them in another
pub record MirrorAsks (w : List ℕ) (spare n : ℕ) (r : List ℕ) (from : ℕ) : Type 0 where
  pub spare_fit : spare + n ≤ length w
  pub room : from + n ≤ length r

-- they stand there, the last first
pub record MirrorGives (w : List ℕ) (spare n : ℕ) (r : List ℕ) (from : ℕ) (r' : List ℕ) : Type 0 where
  pub only : Only from n r r'
  pub reversed : Holds from n (λ i. get_or w (spare + (n - 1 - i)) 0) r'
