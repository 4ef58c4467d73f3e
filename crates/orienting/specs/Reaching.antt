-- Crossing an edge in two parts: first its unvisited users are visited, then it is known whether some other user disagrees. Definitions only.
use Rattle.std.specs.Prelude.{ℕ, suc, Bool, false, not, ◌&&◌, cond, List, [], ◌∷◌, get_or, eqb}
use Rattle.rules.specs.Lists.{filter, through}
use Rattle.rules.specs.Mesh.{Face, face, exchanged}
use Rattle.rules.specs.Steps.{Step, opposite, walks}
use Rattle.rules.specs.Pass4.{Walk, visit}

-- face n, as it stands in the walk, agrees with the step s
abbrev pub agrees : Step → Walk → ℕ → Bool
agrees s w n = walks (face w.faces n) (opposite s)

-- the neighbour n across the step s is visited, if it was not
unfoldable pub reach : Step → Walk → ℕ → Walk
reach s w n = cond (get_or w.visited n false) w (visit (agrees s w n) n w)

-- What is known of the faces met so far, one number c: 0 for none, 1 + n where all were face n, and `many` where there were different ones.
-- Then face n is met.
unfoldable pub sole : ℕ → ℕ → ℕ → ℕ
sole many c n = cond (eqb c 0) (suc n) (cond (eqb c (suc n)) c many)

-- whether c says that some face other than j was met
unfoldable pub other : ℕ → ℕ → Bool
other j c = not (eqb c 0) && not (eqb c (suc j))

-- what is known so of the users that do not make the step t
unfoldable pub lone : ℕ → List Face → Step → List ℕ → ℕ
lone many fs t us = through (sole many) 0 (filter (λ n. not (walks (face fs n) t)) us)

-- a face under its state: 2 says that it is exchanged
unfoldable pub turn : ℕ → Face → Face
turn s f = cond (eqb s 2) (exchanged f) f

-- each face under its state
unfoldable pub turned_by : List ℕ → List Face → List Face
turned_by [] fs = fs
turned_by (s ∷ ss) [] = []
turned_by (s ∷ ss) (f ∷ fs) = turn s f ∷ turned_by ss fs
