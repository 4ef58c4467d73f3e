-- What the public functions give: the row of labels in the words of the rules, and all else as it was. Definitions only.
use Rattle.std.specs.Prelude.{◌≡◌, Bool, List, map, ℕ, length, get_or}
use Rattle.rows.specs.Region.{part, Only}
use Rattle.rules.specs.Lists.{below, filter}
use Rattle.rules.specs.Groups.{group, groups, leads}
use Rattle.rule_laws.proofs.Leaders.{label_of}
use Rattle.flood.specs.Plan.{Plan, joins}

-- the one of i's group that leads
unfoldable pub leader_of : (ℕ → ℕ → Bool) → ℕ → ℕ → ℕ
leader_of joined n i = get_or (filter (leads joined n) (group joined n i)) 0 i

pub record LabelGives (w : List ℕ) (g : Plan) (w' : List ℕ) (r : ℕ) : Type 0 where
  pub only : Only g.labels g.things w w'
  pub numbered : part w' g.labels g.things ≡ map (label_of (joins w g) g.things) (below g.things)
  pub count : r ≡ length (groups (joins w g) g.things)

pub record LeadGives (w : List ℕ) (g : Plan) (w' : List ℕ) : Type 0 where
  pub only : Only g.labels g.things w w'
  pub led : part w' g.labels g.things ≡ map (leader_of (joins w g) g.things) (below g.things)
