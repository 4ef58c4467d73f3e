-- Where the rows stand in the lent row, what they say, and which things they join. Definitions only.
use Rattle.std.specs.Prelude.{Bool, ◌&&◌, List, map, ℕ, ◌+◌, ◌-◌, ◌^◌, ◌≤◌, ◌<◌, length, get_or}
use Rattle.rows.specs.Region.{part, Apart}
use Rattle.rules.specs.Lists.{below, any, has}

-- how many things and runs there are, and where the row of the runs' starts, the things run by run, and the row of labels stand
pub record Plan : Type 0 where
  pub things : ℕ
  pub runs : ℕ
  pub starts : ℕ
  pub order : ℕ
  pub labels : ℕ

abbrev pub plan : ℕ → ℕ → ℕ → ℕ → ℕ → Plan
plan things runs starts order labels = record { things = things; runs = runs; starts = starts; order = order; labels = labels }

module _ (w : List ℕ) (g : Plan) where
  -- where the run r begins, and where the one before it ends
  abbrev pub begins : ℕ → ℕ
  begins r = get_or w (g.starts + r) 0

  -- the thing at a place of the order
  abbrev pub thing : ℕ → ℕ
  thing p = get_or w (g.order + p) 0

  -- the things of the run r
  abbrev pub run : ℕ → List ℕ
  run r = part w (g.order + begins r) (begins (r + 1) - begins r)

  -- the runs
  unfoldable pub members : List (List ℕ)
  members = map run (below g.runs)

-- some run has both x and y
unfoldable pub meets : List (List ℕ) → ℕ → ℕ → Bool
meets rs x y = any (λ run. has x run && has y run) rs

abbrev pub joins : List ℕ → Plan → ℕ → ℕ → Bool
joins w g = meets (members w g)

-- The rows lie within the lent row, the labels apart from the others. The starts rise, and the runs have things.
pub record FloodAsks (w : List ℕ) (g : Plan) : Type 0 where
  pub few : g.things ≤ 2 ^ 32
  pub labels_fit : g.labels + g.things ≤ length w
  pub starts_fit : g.starts + (g.runs + 1) ≤ length w
  pub starts_apart : Apart g.starts (g.runs + 1) g.labels g.things
  pub rising : (r : ℕ) → r < g.runs → begins w g r ≤ begins w g (r + 1)
  pub order_fit : g.order + begins w g g.runs ≤ length w
  pub order_apart : Apart g.order (begins w g g.runs) g.labels g.things
  pub inside : (p : ℕ) → begins w g 0 ≤ p → p < begins w g g.runs → thing w g p < g.things
