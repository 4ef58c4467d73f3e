-- The entries of a face list by their numbers: entry 3 * i + k is step k of face i. `d` says the kind of a table: whether an entry is under its
-- step as it goes, or under the undirected edge. Definitions only.
use Rattle.std.specs.Prelude.{ℕ, ◌+◌, ◌*◌, ◌-◌, ◌%◌, Bool, true, false, cond, List, eqb, length, get_or, take}
use Rattle.rules.specs.Lists.{below, filter, any, each}
use Rattle.rules.specs.Mesh.{Face}
use Rattle.rules.specs.Steps.{Step, step, steps, edge, same, entries, pairs}

-- the place of the corner that follows the one at place i of the flat list, in its face
abbrev pub next : ℕ → ℕ
next i = cond (eqb (i % 3) 2) (i - 2) (i + 1)

-- the step of an entry
unfoldable pub step_at : List Face → ℕ → Step
step_at fs id = get_or (each steps fs) id (step 0 0)

-- what an entry is under: its step if d, else its edge
abbrev pub under : Bool → Step → Step
under true s = s
under false s = edge s

-- the entries that are under e, in order
unfoldable pub ids_of : Bool → List Face → Step → List ℕ
ids_of d fs e = filter (λ id. same e (under d (step_at fs id))) (below (3 * length fs))

-- the different things that entries are under, sorted: the rules' `directed` if d, else their `edges`
unfoldable pub keys_of : Bool → ℕ → List Face → List Step
keys_of d P fs = filter (λ e. any (λ n. same e (under d n.along)) (entries fs)) (pairs P)

-- where the run of number r begins
unfoldable pub start_of : Bool → ℕ → List Face → ℕ → ℕ
start_of d P fs r = length (each (ids_of d fs) (take r (keys_of d P fs)))
