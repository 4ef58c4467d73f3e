-- What is marked at a directed edge. Definitions only.
use Rattle.std.specs.Prelude.{Bool, List, ℕ, Float}
use Rattle.rules.specs.Lists.{has}
use Rattle.rules.specs.Mesh.{Face}
use Rattle.rules.specs.Steps.{Step, walkers}
use Rattle.rules.specs.Rank.{best, without}

-- face i is among the entries after the first of the directed edge e
abbrev pub after_first : (ℕ → Float) → List Face → Step → ℕ → Bool
after_first q fs e i = has i (without (best q (walkers fs e)) (walkers fs e))
