-- Runs give their things one root: what these functions ask and give, in terms of any joining. Definitions only.
use Rattle.std.specs.Prelude.{◌≡◌, Bool, ℕ, ◌+◌, ◌≤◌, ◌<◌, T, length, get_or}
use mathlib.Core.List.{List, Memᴰ}
use Rattle.rows.specs.Region.{Apart, Only, Holds}
use Rattle.rules.specs.Groups.{group, groups}
use Rattle.rule_laws.proofs.Leaders.{label_of}
use Rattle.flood.specs.Plan.{Plan, plan, joins, FloodAsks}
use Rattle.flood.specs.Parents.{Forest}

-- the joining goes both ways
pub record Turns (joined : ℕ → ℕ → Bool) : Type 0 where
  pub each : (x y : ℕ) → T (joined x y) → T (joined y x)

-- the root of each of 0 .. n - 1 is of its group
pub record Within (joined : ℕ → ℕ → Bool) (n : ℕ) (root : ℕ → ℕ) : Type 0 where
  pub each : (x : ℕ) → x < n → Memᴰ (root x) (group joined n x)

-- what had one root has one root
pub record Finer (root root' : ℕ → ℕ) : Type 0 where
  pub each : (x y : ℕ) → root x ≡ root y → root' x ≡ root' y

-- joined things have one root, which is of their group
pub record United (joined : ℕ → ℕ → Bool) (labels n : ℕ) (w : List ℕ) : Type 0 where
  pub root : ℕ → ℕ
  pub forest : Forest labels n root w
  pub within : Within joined n root
  pub same : (x y : ℕ) → x < n → y < n → T (joined x y) → root x ≡ root y

pub record RunAsks (w : List ℕ) (labels order from to : ℕ) : Type 0 where
  pub n : ℕ
  pub root : ℕ → ℕ
  pub forest : Forest labels n root w
  pub joined : ℕ → ℕ → Bool
  pub turns : Turns joined
  pub within : Within joined n root
  pub rising : from ≤ to
  pub fit : order + to ≤ length w
  pub apart : Apart order to labels n
  pub inside : (p : ℕ) → from ≤ p → p < to → get_or w (order + p) 0 < n
  pub joint : (p : ℕ) → from ≤ p → p + 1 < to → T (joined (get_or w (order + p) 0) (get_or w (order + (p + 1)) 0))

-- neighbours of the run have one root
pub record RunGives {w : List ℕ} {labels order from to : ℕ} (q : RunAsks w labels order from to) (w' : List ℕ) : Type 0 where
  pub only : Only labels q.n w w'
  pub new : ℕ → ℕ
  pub forest : Forest labels q.n new w'
  pub within : Within q.joined q.n new
  pub finer : Finer q.root new
  pub same : (p : ℕ) → from ≤ p → p + 1 < to → new (get_or w (order + p) 0) ≡ new (get_or w (order + (p + 1)) 0)

pub record AllAsks (w : List ℕ) (runs starts order labels : ℕ) : Type 0 where
  pub things : ℕ
  pub asks : FloodAsks w (plan things runs starts order labels)
  pub own : Holds labels things (λ i. i) w

pub record AllGives {w : List ℕ} {runs starts order labels : ℕ} (q : AllAsks w runs starts order labels) (w' : List ℕ) : Type 0 where
  pub only : Only labels q.things w w'
  pub united : United (joins w (plan q.things runs starts order labels)) labels q.things w'

pub record UniteGives (w : List ℕ) (g : Plan) (w' : List ℕ) : Type 0 where
  pub only : Only g.labels g.things w w'
  pub united : United (joins w g) g.labels g.things w'

pub record NumberAsks (w : List ℕ) (labels n : ℕ) : Type 0 where
  pub joined : ℕ → ℕ → Bool
  pub turns : Turns joined
  pub united : United joined labels n w

pub record NumberGives {w : List ℕ} {labels n : ℕ} (q : NumberAsks w labels n) (w' : List ℕ) (r : ℕ) : Type 0 where
  pub only : Only labels n w w'
  pub numbered : Holds labels n (label_of q.joined n) w'
  pub count : r ≡ length (groups q.joined n)
